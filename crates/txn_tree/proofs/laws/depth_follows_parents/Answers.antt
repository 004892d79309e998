use Rattle.txn_tree.proofs.Lineages.{depth_step}
use Rattle.txn_tree.proofs.laws.depth_follows_parents.Goals as goal

pub returns : goal.returns
returns c = depth_step
