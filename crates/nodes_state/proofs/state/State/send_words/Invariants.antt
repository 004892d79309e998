use Rattle.std.proofs.Common.{length}
use Rattle.nodes_world.specs.Happenings.{requests_all}
use Rattle.nodes_state.specs.Does.{StaysSo}
use Rattle.nodes_state.specs.Shown.{HasNames, shown}
use Rattle.nodes_state.proofs.Progress.{IsDoing}
use Rattle.nodes_state.proofs.state.State.send_words.Given as goal

abbrev pub invariant-loop-outward : goal.invariant-loop-outward
invariant-loop-outward l = record {
  doing : IsDoing (requests_all l.place l.fn.words.words (shown l.fn.self)) l.fn.lines.items (requests_all l.place l.words.words (shown l.self)) l.lines.items;
  names : HasNames l.self;
  same : StaysSo l.fn.self l.self;
}

abbrev pub decreases-loop-outward : goal.decreases-loop-outward
decreases-loop-outward l = length l.words.words
