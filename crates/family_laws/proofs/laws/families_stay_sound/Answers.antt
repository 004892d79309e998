use Rattle.family_laws.proofs.Steps.{families_stay_sound}
use Rattle.family_laws.proofs.laws.families_stay_sound.Goals as goal

pub returns : goal.returns
returns c = families_stay_sound c.laws_below.ensures
