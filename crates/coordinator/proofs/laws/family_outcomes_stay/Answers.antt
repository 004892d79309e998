use Rattle.coordinator.proofs.Outcomes.{outcomes_stay}
use Rattle.coordinator.proofs.laws.family_outcomes_stay.Goals as goal

pub returns : goal.returns
returns c = outcomes_stay c.a_tree_outcome_stays.ensures
