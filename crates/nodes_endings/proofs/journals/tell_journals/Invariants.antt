use Rattle.std.proofs.Common.{drop, map}
use Rattle.nodes_world.specs.Lives.{journal_lines_from, last_lines}
use Rattle.nodes_state.specs.Seated.{seat_of}
use Rattle.nodes_state.specs.Shown.{shown}
use Rattle.nodes_state.proofs.Progress.{IsTelling}
use Rattle.nodes_endings.proofs.journals.tell_journals.Given as goal

abbrev pub invariant-loop-place : goal.invariant-loop-place
invariant-loop-place l =
    IsTelling (last_lines (shown l.state)) l.fn.lines.items (journal_lines_from l.place (map seat_of (drop l.place l.state.seats.items))) l.lines.items
