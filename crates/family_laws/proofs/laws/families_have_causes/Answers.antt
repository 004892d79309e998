use Rattle.family_laws.proofs.Reasons.{families_have_causes}
use Rattle.family_laws.proofs.laws.families_have_causes.Goals as goal

pub returns : goal.returns
returns c = families_have_causes c.tree_outcomes_have_causes.ensures
