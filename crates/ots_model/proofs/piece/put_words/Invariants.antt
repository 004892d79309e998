use Rattle.std.proofs.Common.{take}
use Rattle.ots_model.specs.Rows.{Puts}
use Rattle.ots_model.proofs.PieceLemmas.{joined}
use Rattle.ots_model.proofs.piece.put_words.Given as goal

abbrev pub invariant-loop-index : goal.invariant-loop-index
invariant-loop-index l = Puts l.fn.lines.items l.fn.row (joined (take l.index l.words)) l.lines.items l.row
