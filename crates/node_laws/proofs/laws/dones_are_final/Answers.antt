use Rattle.node_laws.proofs.Dones.{dones_are_final}
use Rattle.node_laws.proofs.laws.dones_are_final.Goals as goal

pub returns : goal.returns
returns c = dones_are_final c.nodes_keep_rules.ensures c.nodes_keep_decisions.ensures
