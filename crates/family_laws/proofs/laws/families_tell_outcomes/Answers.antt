use Rattle.family_laws.proofs.StepsTell.{families_tell_outcomes}
use Rattle.family_laws.proofs.laws.families_tell_outcomes.Goals as goal

pub returns : goal.returns
returns c = families_tell_outcomes c.a_tree_outcome_stays.ensures
