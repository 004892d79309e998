use Rattle.std.proofs.Common.{◌≡◌, Some, drop}
use Rattle.coordinator.specs.NodeTick.{Ticked}
use Rattle.nodes_world.specs.World.{node_at}
use Rattle.nodes_state.specs.Does.{StaysSo}
use Rattle.nodes_state.specs.Shown.{HasNames, shown}
use Rattle.nodes_seats.specs.Ticking.{IsDueOf}
use Rattle.nodes_seats.specs.Waiting.{IsPrimed, waiting_words}
use Rattle.nodes_seats.proofs.Ticks.{IsPassing}
use Rattle.nodes_seats.proofs.ticking.tell_due.Given as goal

abbrev pub invariant-loop-happening : goal.invariant-loop-happening
invariant-loop-happening l = record {
  primed : IsPrimed l.words;
  names : HasNames l.state;
  same : StaysSo l.fn.state l.state;
  passing : (t : Ticked) → node_at (shown l.fn.state) l.place ≡ Some t.node → IsDueOf t l.happened l.fn.words.words
      → IsPassing t l.place (shown l.fn.state) l.fn.lines.items (drop l.happening-index t.happened) (waiting_words l.words) (shown l.state) l.lines.items;
}
