use Rattle.txn_tree.proofs.Next.{next_is_first}
use Rattle.txn_tree.proofs.laws.next_is_first.Goals as goal

pub returns : goal.returns
returns c = next_is_first
