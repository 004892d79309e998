use Rattle.family_laws.proofs.Closing.{families_close_last}
use Rattle.family_laws.proofs.laws.families_close_last.Goals as goal

pub returns : goal.returns
returns c = families_close_last c.laws_below.ensures
