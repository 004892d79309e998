-- Nothing is kept for the depths that were passed.
use Rattle.txn_tree.specs.Links.{NoneKept}
use Rattle.txn_tree.proofs.links.last_under.Given as goal

abbrev pub invariant-loop-depth : goal.invariant-loop-depth
invariant-loop-depth l = NoneKept l.links l.above l.depth
