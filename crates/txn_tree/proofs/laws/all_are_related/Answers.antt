use Rattle.txn_tree.proofs.Lineages.{top_ancestor, all_related}
use Rattle.txn_tree.proofs.laws.all_are_related.Goals as goal

pub returns : goal.returns
returns c rows t a b within also = (top_ancestor rows t b also, all_related rows t a b within also)
