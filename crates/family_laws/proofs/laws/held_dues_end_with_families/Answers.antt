use Rattle.family_laws.proofs.TakenOver.{held_dues_end_with_families}
use Rattle.family_laws.proofs.laws.held_dues_end_with_families.Goals as goal

pub returns : goal.returns
returns c = held_dues_end_with_families
