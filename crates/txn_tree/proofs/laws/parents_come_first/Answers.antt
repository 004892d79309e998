use Rattle.txn_tree.proofs.Lineages.{parent_below, tree_kept}
use Rattle.txn_tree.proofs.Sound.{depths_begin}
use Rattle.txn_tree.proofs.laws.parents_come_first.Goals as goal

pub returns-clause-first : goal.returns-clause-first
returns-clause-first c = parent_below

pub returns-clause-top : goal.returns-clause-top
returns-clause-top c = depths_begin.tree

pub returns-clause-stands : goal.returns-clause-stands
returns-clause-stands c = tree_kept
