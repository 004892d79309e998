-- The ancestors up to the branch at hand are linked.
use Rattle.txn_tree.proofs.Linking.{Linking}
use Rattle.txn_tree.proofs.links.link.Given as goal

abbrev pub invariant-loop-above : goal.invariant-loop-above
invariant-loop-above l = Linking l.rows l.links l.branch l.at

abbrev pub decreases-loop-above : goal.decreases-loop-above
decreases-loop-above l = l.at
