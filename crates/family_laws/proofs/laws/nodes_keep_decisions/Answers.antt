use Rattle.family_laws.proofs.Owners.{nodes_keep_decisions}
use Rattle.family_laws.proofs.laws.nodes_keep_decisions.Goals as goal

pub returns : goal.returns
returns c = nodes_keep_decisions c.laws_below.ensures c.a_tree_outcome_stays.ensures c.nodes_stay_sound.ensures
