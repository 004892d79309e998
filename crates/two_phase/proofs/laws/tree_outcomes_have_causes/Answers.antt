use Rattle.two_phase.proofs.Causes.{outcomes_have_causes}
use Rattle.two_phase.proofs.laws.tree_outcomes_have_causes.Goals as goal

pub returns : goal.returns
returns c = outcomes_have_causes
