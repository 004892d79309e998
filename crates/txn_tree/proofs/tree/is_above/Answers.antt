use Rattle.std.proofs.Common.{◌<◌, sym, ◌∙◌, arith}
use Rattle.txn_tree.proofs.Lineages.{ancestor_itself, ancestor_of_parent, no_ancestor, parent_below}
use Rattle.txn_tree.proofs.tree.is_above.Goals as goal

pub loop-at-preserved : goal.loop-at-preserved
loop-at-preserved c =
    let within = c.loop-at.invariant.there in
    let below : c.in-Some.parent < c.loop-at.at = parent_below c.args.rows.now c.requires.tree _ _ within (sym c.in-Some.ensures) in
    record {
      there = omega arith;
      same = c.loop-at.invariant.same ∙ ancestor_of_parent c.args.rows.now c.requires.tree c.args.a _ _ within c.loop-at-test.true (sym c.in-Some.ensures);
    }

pub returns-in-None : goal.returns-in-None
returns-in-None c = sym (c.loop-at.invariant.same ∙ no_ancestor c.args.rows.now c.requires.tree c.args.a _ c.loop-at.invariant.there c.loop-at-test.true (sym c.in-None.ensures))

pub returns : goal.returns
returns c = sym (rw c.loop-at-test.false at c.loop-at.invariant.same ∙ ancestor_itself c.args.rows.now c.requires.tree c.args.a (rw c.loop-at-test.false at c.loop-at.invariant.there))
