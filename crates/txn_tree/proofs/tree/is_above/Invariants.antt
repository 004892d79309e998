-- The branch at hand has the same ancestor, or not, as the one that was asked for.
use Rattle.std.proofs.Common.{◌≡◌, ◌<◌, length}
use Rattle.txn_tree.specs.Rows as ancestry
use Rattle.txn_tree.proofs.tree.is_above.Given as goal

abbrev pub invariant-loop-at : goal.invariant-loop-at
invariant-loop-at l = record {
  there : l.at < length l.rows;
  same : ancestry.is_ancestor l.rows l.a l.b ≡ ancestry.is_ancestor l.rows l.a l.at;
}

abbrev pub decreases-loop-at : goal.decreases-loop-at
decreases-loop-at l = l.at
