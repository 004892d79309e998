use Rattle.family_laws.proofs.StepsTell.{families_tell_ends}
use Rattle.family_laws.proofs.laws.families_tell_ends.Goals as goal

pub returns : goal.returns
returns c = families_tell_ends
