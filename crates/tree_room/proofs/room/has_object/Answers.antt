use Rattle.std.proofs.Common.{◌∙◌, ap}
use Rattle.coordinator.specs.Objects.{node_has_object}
use Rattle.service_node.specs.NodeState.{NodeState}
use Rattle.tree_room.proofs.room.has_object.Goals as goal

pub returns : goal.returns
returns g c = record {
  node = c.args.node.now;
  of_room = c.node.ensures.of_room;
  there_is = c.has_object.ensures ∙ ap (λ (n : NodeState g.row.D.Denot). node_has_object c.args.key.now n.node) c.node.ensures.same;
}
