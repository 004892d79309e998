use Rattle.std.specs.Prelude.{◌≡◌, ℕ, ◌+◌, ◌*◌, ◌-◌, ◌<◌, ◌≤◌, List, length, min, vec_len, vec_capacity, slice_index}
use Rattle.txn_tree.specs.Limits.{depth_limit, transaction_limit}
use Rattle.txn_tree.specs.Rows.{IsTree, depth}
use Rattle.txn_tree.specs.Calls.{TreeParts}
use Rattle.txn_tree.specs.Links.{AreLinked}
use Rattle.txn_tree.specs.declared.row.Row.{Row}
use Rattle.txn_tree.specs.declared.tree.Tree.TheInside.{Inside}

-- the rows, and how many more fit into each of the vectors
abbrev pub parts : Inside → TreeParts
parts t = record {
  rows = t.rows.items;
  room = min (vec_capacity t.rows - vec_len t.rows)
      (min (vec_capacity t.depths - vec_len t.depths) (vec_capacity t.links - vec_len t.links));
}

-- the rows are those of a tree within the limits, and each has its depth
pub record HaveDepths (rows : List Row) (depths : List ℕ) : Type 0 where
  pub tree : IsTree rows
  pub few : length rows ≤ transaction_limit
  pub each_has_one : length depths ≡ length rows
  pub depths_are : (b : ℕ) → b < length rows → slice_index depths b ≡ depth rows b
  pub shallow : (b : ℕ) → b < length rows → depth rows b ≤ depth_limit

-- memory is taken for as many more as there are at most, but for two at the beginning
abbrev pub HasSpare : ℕ → ℕ → Type 0
HasSpare count capacity = capacity ≤ 2 * count + 2

-- each branch has its depth, all are linked, and no more memory is taken than doubling wants
pub record IsSound (t : Inside) : Type 0 where
  pub shape : HaveDepths t.rows.items t.depths.items
  pub linked : AreLinked t.rows.items t.links.items (length t.rows.items)
  pub rows_spare : HasSpare (vec_len t.rows) (vec_capacity t.rows)
  pub depths_spare : HasSpare (vec_len t.depths) (vec_capacity t.depths)
  pub links_spare : HasSpare (vec_len t.links) (vec_capacity t.links)
