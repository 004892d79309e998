-- The trees of the records that are held, as the code finds the first record of one (our profile).
use Rattle.std.specs.Prelude.{◌≡◌, ℕ, ◌==◌, ◌&&◌, min, Bool, true, false, not, List, [], ◌∷◌, Option, Some, None, if◌then◌else◌}
use Rattle.std.specs.List.{list_any}
use Rattle.std.specs.Map.{lookup}
use Rattle.ior_refs.specs.declared.key.ObjectKey.{ObjectKey}
use Rattle.recovery_coord.specs.declared.held.Held.{Held}
use Rattle.recovery_coord.specs.Order.{RiseFrom}
use Rattle.recovery_coord.specs.declared.trees.First.{First}
use Rattle.recovery_coord.specs.declared.trees.Tree.{Tree}

abbrev pub same_tree : Tree → Tree → Bool
same_tree a b = a.life == b.life && (a.slot == b.slot && a.generation == b.generation)

-- the tree of a record, and that which a key names
abbrev pub tree_of : Held → Tree
tree_of r = record { life = r.life; slot = r.slot; generation = r.generation }

abbrev pub tree_named : ObjectKey → Tree
tree_named key = record { life = key.life; slot = key.slot; generation = key.generation }

abbrev pub is_of : Tree → Held → Bool
is_of t r = same_tree (tree_of r) t

-- the place of the first record of a tree, and whether it is the only one
abbrev pub first_of : Tree → List Held → Option First
first_of t [] = None
first_of t (r ∷ rs) = if is_of t r then Some (record { place = r.place; alone = not (list_any (is_of t) rs) }) else first_of t rs

-- one more record of the tree is at this place
abbrev pub joined : ℕ → Option First → First
joined place None = record { place = place; alone = true }
joined place (Some first) = record { place = min place first.place; alone = false }

-- the same, where the record is of the tree
abbrev pub joins : Tree → Held → Option First → Option First
joins t r first = if is_of t r then Some (joined r.place first) else first

-- trees with their first records
abbrev pub Firsts : Type 0
Firsts = List (Tree × First)

-- and for how many more there is room
pub record TreesParts : Type 0 where
  pub firsts : Firsts
  pub room : ℕ

abbrev pub first_in : Firsts → Tree → Option First
first_in firsts t = lookup (same_tree t) firsts

-- they are found as before
abbrev pub IsKept : Firsts → Firsts → Type 0
IsKept before after = (t : Tree) → first_in after t ≡ first_in before t

-- a tree has this from now on
abbrev pub IsPut : Tree → Option First → Firsts → Firsts → Type 0
IsPut tree first before after = (t : Tree) → first_in after t ≡ (if same_tree tree t then first else first_in before t)

-- each tree has its first record
abbrev pub IsIndex : Firsts → List Held → Type 0
IsIndex firsts records = (t : Tree) → first_in firsts t ≡ first_of t records

-- the records are in the order of their places, and each tree has its first record
pub record AreFound (firsts : Firsts) (records : List Held) : Type 0 where
  pub order : RiseFrom 0 records
  pub index : IsIndex firsts records

-- one more record is there, and no other came or went
abbrev pub Joins : Held → List Held → List Held → Type 0
Joins r before after = (t : Tree) → first_of t after ≡ joins t r (first_of t before)

-- what is left of a tree, one of whose records is gone
abbrev pub parted : Option First → Option First → Option First
parted None left = None
parted (Some first) left = if first.alone then None else left

-- a record of this tree is gone, and none of another
pub record IsParted (tree : Tree) (before after : List Held) : Type 0 where
  pub others : (t : Tree) → same_tree tree t ≡ false → first_of t after ≡ first_of t before
  pub left : parted (first_of tree before) (first_of tree after) ≡ first_of tree after

abbrev pub IsPartedWhere : Option Tree → List Held → List Held → Type 0
IsPartedWhere None before after = after ≡ before
IsPartedWhere (Some tree) before after = IsParted tree before after
