use Rattle.std.proofs.Common.{length}
use Rattle.ots_program.proofs.Showing.{Telling}
use Rattle.ots_program.proofs.show.take_piece.Given as goal

abbrev pub invariant-loop-framed : goal.invariant-loop-framed
invariant-loop-framed l = Telling l.fn.stream l.stream l.piece l.lines.items

abbrev pub decreases-loop-framed : goal.decreases-loop-framed
decreases-loop-framed l = length l.stream.rest
