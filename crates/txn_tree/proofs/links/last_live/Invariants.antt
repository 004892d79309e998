-- So far back none that is live was left out.
use Rattle.std.proofs.Common.{suc, length}
use Rattle.std.specs.Option.{option_map_or}
use Rattle.txn_tree.specs.Links.{LooksBack}
use Rattle.txn_tree.proofs.links.last_live.Given as goal

abbrev pub invariant-loop-at : goal.invariant-loop-at
invariant-loop-at l = LooksBack l.rows l.above l.depth (length l.rows) l.at

abbrev pub decreases-loop-at : goal.decreases-loop-at
decreases-loop-at l = option_map_or (λ t. suc t) l.at 0
