-- The links of a tree, by which the live branches below each one are found.
use Rattle.std.specs.Prelude.{◌≡◌, ◌≢◌, ℕ, ◌+◌, ◌<◌, ◌≤◌, Bool, true, false, List, [], ◌∷◌, length, Option, Some, None, MatchOption, IfSome}
use Rattle.std.specs.List.{slice_get}
use Rattle.std.specs.Option.{option_map_or, option_and_then}
use Rattle.txn_tree.specs.Limits.{depth_limit}
use Rattle.txn_tree.specs.Rows.{parent, is_ancestor, depth, is_live_branch}
use Rattle.txn_tree.specs.declared.row.Row.{Row}
use Rattle.txn_tree.specs.declared.links.Links.{Links}

-- the branch that is kept for a place, if there is one
abbrev pub kept : List (Option ℕ) → ℕ → Option ℕ
kept places n = option_and_then (λ (o : Option ℕ). o) (slice_get places n)

-- what is kept of a branch for a depth below it
abbrev pub last : List Links → ℕ → ℕ → Option ℕ
last links a l = option_and_then (λ (k : Links). kept k.last l) (slice_get links a)

-- what is kept of a branch for an ancestor of a depth
abbrev pub before : List Links → ℕ → ℕ → Option ℕ
before links q d = option_and_then (λ (k : Links). kept k.before d) (slice_get links q)

-- how many depths there are, with 0, at which no branch lies
abbrev pub depth_count : ℕ
depth_count = depth_limit + 1

-- there is a place for each depth
abbrev pub AreWide : List Links → Type 0
AreWide [] = Unit {0}
AreWide (k ∷ links) = (length k.last ≡ depth_count) × (length k.before ≡ depth_count) × AreWide links

-- a branch is a descendant of another one, and not that one
abbrev pub is_below : List Row → ℕ → ℕ → Bool
is_below rows a q = option_map_or (λ p. is_ancestor rows a p) (parent rows q) false

-- a branch is below another one, at a depth
pub record LiesBelow (rows : List Row) (a l q : ℕ) : Type 0 where
  pub there : q < length rows
  pub below : is_below rows a q ≡ true
  pub deep : depth rows q ≡ l

-- from one branch on and before another one, none that lies below a branch at a depth is live
pub record NoneLive (rows : List Row) (a l from end : ℕ) : Type 0 where
  pub dead : (q : ℕ) → from ≤ q → q < end → LiesBelow rows a l q → is_live_branch rows q ≡ false

-- a branch lies there, and no later one is live before the end
pub record IsBack (rows : List Row) (a l end t : ℕ) : Type 0 where
  pub lies : LiesBelow rows a l t
  pub earlier : t < end
  pub none : NoneLive rows a l (t + 1) end

-- so far back no live one is left out
abbrev pub LooksBack : List Row → ℕ → ℕ → ℕ → Option ℕ → Type 0
LooksBack rows a l end o = MatchOption o (NoneLive rows a l 0 end) (IsBack rows a l end)

-- it is live, if there is one
abbrev pub IsFound : List Row → Option ℕ → Type 0
IsFound rows o = IfSome o (λ t. is_live_branch rows t ≡ true)

-- the links of the branches before the end: for each branch and depth one that lies there; and for each branch and
-- ancestor one that was made before it, and lies as deep below that ancestor; and they leave no live one out
pub record LeaveNoneOut (rows : List Row) (links : List Links) (end : ℕ) : Type 0 where
  pub each_has_one : length links ≡ length rows
  pub wide : AreWide links
  pub lasts : (a l : ℕ) → LooksBack rows a l end (last links a l)
  pub befores : (a q : ℕ) → q < end → is_below rows a q ≡ true
      → LooksBack rows a (depth rows q) q (before links q (depth rows a))

-- the branches before the end are linked: for each branch and depth the last live one is kept
pub record AreLinked (rows : List Row) (links : List Links) (end : ℕ) : Type 0 where
  pub ways : LeaveNoneOut rows links end
  pub live : (a l : ℕ) → IsFound rows (last links a l)

-- all are linked, but one that has ended may be kept as a live one
pub record AreLinkedBut (rows : List Row) (links : List Links) (ended : ℕ) : Type 0 where
  pub ways : LeaveNoneOut rows links (length rows)
  pub live : (a l : ℕ) → last links a l ≢ Some ended → IsFound rows (last links a l)

-- none is kept of a branch for a depth from this one on
abbrev pub NoneKept : List Links → ℕ → ℕ → Type 0
NoneKept links a low = (l : ℕ) → low ≤ l → l ≤ depth_limit → last links a l ≡ None

-- of those that are kept of a branch, the one for the largest depth
pub record IsDeepestAt (links : List Links) (a t : ℕ) : Type 0 where
  pub at : ℕ
  pub its : last links a at ≡ Some t
  pub none : NoneKept links a (at + 1)

abbrev pub IsDeepest : List Links → ℕ → Option ℕ → Type 0
IsDeepest links a o = MatchOption o (NoneKept links a 0) (IsDeepestAt links a)
