use Rattle.std.proofs.Common.{◌∙◌, ℕ, ap}
use Rattle.std.specs.Prelude.{find}
use Rattle.coordinator.specs.NodeRecords.{record_of}
use Rattle.recovery_coord.specs.Replay.{is_of_tree}
use Rattle.service_node.specs.NodeState.{NodeState}
use Rattle.service_node.proofs.node.Node.record_for.Goals as goal

pub returns : goal.returns
returns g c =
    c.record_of.ensures
    ∙ ap (λ (service : ℕ). find (is_of_tree service c.args.key.now) c.self.inside.recovered.records) c.self.invariant.own.service_is
    ∙ ap (λ (s : NodeState g.row.D.Denot). record_of c.args.key.now s.node) c.self.view_is
