use Rattle.nodes_world.specs.Deliveries.{flows}
use Rattle.nodes_state.specs.Shown.{shown}
use Rattle.nodes_state.proofs.Progress.{IsDoing}
use Rattle.nodes_ready.specs.Ready.{IsReady}
use Rattle.nodes_deliveries.proofs.flowing.flow.Given as goal

abbrev pub invariant-loop-left : goal.invariant-loop-left
invariant-loop-left l = record {
  doing : IsDoing (flows l.count (shown l.fn.state)) l.fn.lines.items (flows l.left (shown l.state)) l.lines.items;
  ready : IsReady l.state;
}

abbrev pub decreases-loop-left : goal.decreases-loop-left
decreases-loop-left l = l.left
