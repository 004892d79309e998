use Rattle.txn_tree.proofs.Lineages.{parents_kept}
use Rattle.txn_tree.proofs.laws.calls_keep_parents.Goals as goal

pub returns : goal.returns
returns c = parents_kept
