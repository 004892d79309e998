-- What the definitions of trees say (nested transactions, and interface Coordinator of module CosTransactions).
use Rattle.std.specs.Prelude.{◌≡◌, ℕ, suc, ◌<◌, ◌≤◌, ◌⊎◌, true, MatchOption, ◌==◌, ◌&&◌, ◌||◌, Bool, false, List, length, Some}
use Rattle.std.specs.Option.{option_map_or}
use Rattle.txn_tree.specs.Rows.{parent, state, IsTree, is_ancestor, is_committed, is_committed_up, depth, are_related}
use Rattle.txn_tree.specs.Calls.{top_alone, with_state, created, ended, marked, is_live_below, live_under}
use Rattle.txn_tree.specs.declared.row.Row.{Row}
use Rattle.txn_tree.specs.declared.row.State.{State}

-- a is an ancestor of b exactly where it is b, or an ancestor of b's parent
abbrev pub AncestryFollowsParents : Type 0
AncestryFollowsParents = (rows : List Row) → IsTree rows → (a b : ℕ) → b < length rows
    → is_ancestor rows a b ≡ ((b == a) || option_map_or (λ p. is_ancestor rows a p) (parent rows b) false)

-- a branch lies one deeper than its parent, and the top has depth 1
abbrev pub DepthFollowsParents : Type 0
DepthFollowsParents = (rows : List Row) → IsTree rows → (b : ℕ) → b < length rows
    → depth rows b ≡ suc (option_map_or (λ p. depth rows p) (parent rows b) 0)

-- the top is an ancestor of each branch, so all are related
abbrev pub AllAreRelated : Type 0
AllAreRelated = (rows : List Row) → IsTree rows → (a b : ℕ) → a < length rows → b < length rows
    → (is_ancestor rows 0 b ≡ true) × (are_related rows a b ≡ true)

-- a branch is committed up to another one exactly where it is that one, or it was committed and its parent is
-- committed up to it
abbrev pub CommitFollowsParents : Type 0
CommitFollowsParents = (rows : List Row) → IsTree rows → (above b : ℕ) → b < length rows
    → is_committed_up rows above b
    ≡ ((b == above) || (option_map_or is_committed (state rows b) false
    && option_map_or (λ p. is_committed_up rows above p) (parent rows b) false))

-- each call leaves the rows of a tree
pub record StayTrees (rows : List Row) (b : ℕ) : Type 0 where
  pub with_a_child : IsTree (created rows b)
  pub with_an_end : (committed : Bool) → IsTree (ended rows b committed)
  pub with_a_mark : IsTree (marked rows b)

abbrev pub TreesStayTrees : Type 0
TreesStayTrees = (rows : List Row) → IsTree rows → (b : ℕ) → b < length rows → StayTrees rows b

-- there are as many transactions, and each has the parent that it had
pub record KeepsParents (rows later : List Row) : Type 0 where
  pub count : length later ≡ length rows
  pub parents : (q : ℕ) → parent later q ≡ parent rows q

-- there is one more, last, with this parent; each other one has the parent that it had
pub record AddsOne (rows later : List Row) (b : ℕ) : Type 0 where
  pub count : length later ≡ suc (length rows)
  pub parents : (q : ℕ) → q < length rows → parent later q ≡ parent rows q
  pub new : parent later (length rows) ≡ Some b

-- a call that creates a subtransaction adds it alone; each other call changes alone how a transaction stands
pub record KeepParents (rows : List Row) (b : ℕ) : Type 0 where
  pub with_a_child : AddsOne rows (created rows b) b
  pub with_a_state : (s : State) → KeepsParents rows (with_state rows b s)

abbrev pub CallsKeepParents : Type 0
CallsKeepParents = (rows : List Row) (b : ℕ) → KeepParents rows b

-- the rows of a tree begin with the top alone
abbrev pub TopIsTree : Type 0
TopIsTree = IsTree top_alone

-- they are those of a tree however a branch stands
abbrev pub EachStateIsTree : Type 0
EachStateIsTree = (rows : List Row) → IsTree rows → (b : ℕ) (s : State) → IsTree (with_state rows b s)

-- a parent is made before its child
abbrev pub ParentsComeFirst : Type 0
ParentsComeFirst = (rows : List Row) → IsTree rows → (b p : ℕ) → b < length rows → parent rows b ≡ Some p → p < b

-- a branch is rolled back before another one: it lies deeper, or as deep and was made later
abbrev pub GoesFirst : List Row → ℕ → ℕ → Type 0
GoesFirst rows r q = (depth rows q < depth rows r) ⊎ ((depth rows q ≡ depth rows r) × (q ≤ r))

-- a branch is live below b, and is rolled back before all others that are
pub record IsNext (rows : List Row) (b r : ℕ) : Type 0 where
  pub there : r < length rows
  pub live : is_live_below rows b r ≡ true
  pub first : (q : ℕ) → q < length rows → is_live_below rows b q ≡ true → GoesFirst rows r q

-- the next one is the first of those that are live below a branch; where there is none, none is
abbrev pub NextIsFirst : Type 0
NextIsFirst = (rows : List Row) (b : ℕ)
    → MatchOption (live_under rows b) ((q : ℕ) → q < length rows → is_live_below rows b q ≡ false) (IsNext rows b)
