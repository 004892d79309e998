use Rattle.std.proofs.Common.{sym, ◌∙◌, arith}
use Rattle.nodes_parts.proofs.SharedLemmas.{other_word, same_end, same_front}
use Rattle.nodes_parts.proofs.shared.are_same_by_words.Goals as goal

pub returns-then-not-is_same_word : goal.returns-then-not-is_same_word
returns-then-not-is_same_word c =
    sym (other_word c.args.octets.now c.args.others.now c.loop-at.at (sym c.is_same_word.ensures ∙ c.if-not-is_same_word.true))

pub loop-at-preserved : goal.loop-at-preserved
loop-at-preserved c = record {
  within = omega (arith, c.loop-at-test.true);
  same = same_front c.args.octets.now c.args.others.now c.loop-at.at c.loop-at.invariant.same (sym c.is_same_word.ensures ∙ c.if-not-is_same_word.false);
}

pub returns : goal.returns
returns c =
    c.is_same_word-2.ensures
    ∙ same_end c.args.octets.now c.args.others.now c.loop-at.at _ (omega arith) (omega arith) c.requires c.loop-at.invariant.same
