use Rattle.std.proofs.Common.{drop}
use Rattle.ots_calls.proofs.Pieces.{IsWriting}
use Rattle.ots_calls.proofs.body.values_body.Given as goal

-- the pieces behind those that were written are still to come
abbrev pub invariant-loop-piece : goal.invariant-loop-piece
invariant-loop-piece l = IsWriting l.pieces (drop l.piece-index l.pieces) l.writer
