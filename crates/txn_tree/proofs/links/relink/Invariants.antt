-- The branches so far are linked.
use Rattle.txn_tree.specs.Links.{AreLinked}
use Rattle.txn_tree.proofs.links.relink.Given as goal

abbrev pub invariant-loop-branch : goal.invariant-loop-branch
invariant-loop-branch l = AreLinked l.rows l.links l.branch
