-- The ancestors up to the branch at hand are linked.
use Rattle.txn_tree.proofs.Unlinking.{Unlinking}
use Rattle.txn_tree.proofs.links.unlink.Given as goal

abbrev pub invariant-loop-above : goal.invariant-loop-above
invariant-loop-above l = Unlinking l.rows l.links l.branch l.at

abbrev pub decreases-loop-above : goal.decreases-loop-above
decreases-loop-above l = l.at
