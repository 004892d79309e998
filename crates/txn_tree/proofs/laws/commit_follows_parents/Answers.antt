use Rattle.txn_tree.proofs.Lineages.{committed_up_step}
use Rattle.txn_tree.proofs.laws.commit_follows_parents.Goals as goal

pub returns : goal.returns
returns c = committed_up_step
