use Rattle.ots_model.proofs.PieceLemmas.{word_joined}
use Rattle.ots_model.proofs.RowLemmas.{puts_then}
use Rattle.ots_model.proofs.piece.put_words.Goals as goal

pub loop-index-preserved : goal.loop-index-preserved
loop-index-preserved c =
    rw (word_joined c.args.words.now c.loop-index.index _ c.loop-index-test.true c.index-words-index.is)
    (puts_then _ _ _ _ _ _ _ _ c.loop-index.invariant (puts_then _ _ _ _ _ _ _ _ c.in_ok-part.ensures.ok c.in_ok-put.ensures.ok))
