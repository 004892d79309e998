use Rattle.txn_tree.proofs.Lineages.{is_ancestor_step}
use Rattle.txn_tree.proofs.laws.ancestry_follows_parents.Goals as goal

pub returns : goal.returns
returns c = is_ancestor_step
