use Rattle.two_phase.proofs.Stays.{outcome_stays}
use Rattle.two_phase.proofs.laws.a_tree_outcome_stays.Goals as goal

pub returns : goal.returns
returns c = outcome_stays
