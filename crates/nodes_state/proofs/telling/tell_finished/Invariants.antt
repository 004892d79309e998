use Rattle.std.proofs.Common.{drop}
use Rattle.nodes_world.specs.Happenings.{all_finished_lines}
use Rattle.nodes_state.proofs.Progress.{IsTelling}
use Rattle.nodes_state.proofs.telling.tell_finished.Given as goal

abbrev pub invariant-loop-answer : goal.invariant-loop-answer
invariant-loop-answer l =
    IsTelling (all_finished_lines l.entries l.fn.finished) l.fn.lines.items (all_finished_lines l.entries (drop l.answer-index l.finished)) l.lines.items
