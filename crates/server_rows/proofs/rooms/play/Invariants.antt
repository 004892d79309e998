use Rattle.coordinator.specs.Node as nodes
use Rattle.server_rows.proofs.rooms.play.Given as goal

abbrev pub ghosts-open : goal.ghosts-open
ghosts-open g a = record { service = a.node.node.service; life = nodes.life a.node.node }
