use Rattle.std.proofs.Common.{List, length}
use Rattle.ots_model.specs.declared.tree.Outward.{Outward}
use Rattle.nodes_state.specs.Does.{StaysSo}
use Rattle.nodes_state.specs.Shown.{HasNames, shown}
use Rattle.nodes_seats.specs.Waiting.{IsPrimed, IsSplit, waiting_words}
use Rattle.nodes_seats.proofs.Waits.{IsSending}
use Rattle.nodes_seats.proofs.ticking.send_words_of.Given as goal

abbrev pub invariant-loop-outward : goal.invariant-loop-outward
invariant-loop-outward l = record {
  primed : IsPrimed l.words;
  names : HasNames l.state;
  same : StaysSo l.fn.state l.state;
  sending : (own rest : List Outward) → IsSplit l.slot own rest l.fn.words
      → IsSending l.slot l.place own rest (shown l.fn.state) l.fn.lines.items l.words (shown l.state) l.lines.items;
}

abbrev pub decreases-loop-outward : goal.decreases-loop-outward
decreases-loop-outward l = length (waiting_words l.words)
