use Rattle.coordinator.proofs.NodesPlayed.{nodes_play}
use Rattle.coordinator.proofs.laws.nodes_play.Goals as goal

pub returns : goal.returns
returns c = nodes_play
