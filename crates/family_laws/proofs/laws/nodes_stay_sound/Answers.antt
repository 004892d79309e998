use Rattle.family_laws.proofs.Nodes.{nodes_stay_sound}
use Rattle.family_laws.proofs.laws.nodes_stay_sound.Goals as goal

pub returns : goal.returns
returns c = nodes_stay_sound c.laws_below.ensures c.a_tree_outcome_stays.ensures c.nodes_keep_numbers.ensures
