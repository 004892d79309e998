use Rattle.txn_tree.proofs.Lineages.{tree_grows, tree_kept}
use Rattle.txn_tree.proofs.laws.trees_stay_trees.Goals as goal

pub returns : goal.returns
returns c rows t b h = record { with_a_child = tree_grows rows t b h; with_an_end = λ committed. tree_kept rows t b _; with_a_mark = tree_kept rows t b _ }
