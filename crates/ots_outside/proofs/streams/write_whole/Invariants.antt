use Rattle.std.proofs.Common.{length}
use Rattle.ots_outside.proofs.Sent.{HasSent}
use Rattle.ots_outside.proofs.streams.write_whole.Given as goal

abbrev pub invariant-loop-rest : goal.invariant-loop-rest
invariant-loop-rest g l = HasSent (g.W.Write.contents l.initial.writer) l.bytes l.rest (g.W.Write.contents l.writer)

abbrev pub decreases-loop-rest : goal.decreases-loop-rest
decreases-loop-rest g l = length l.rest
