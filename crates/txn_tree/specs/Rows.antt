-- A tree of transactions: the nested transactions of the Transaction Service, and the relations between transactions of
-- interface Coordinator (module CosTransactions). A tree is a list of rows, and a branch is a place in it.
use Rattle.std.specs.Prelude.{◌≡◌, ℕ, ◌<◌, ◌==◌, ◌&&◌, ◌||◌, Bool, true, false, zero, suc, List, [], ◌∷◌, length, Option, Some, None}
use Rattle.std.specs.List.{slice_get, list_any}
use Rattle.std.specs.Option.{option_map, option_map_or, option_and_then}
use Rattle.ots_model.specs.declared.service.Status.{Status}
use Rattle.ots_model.specs.declared.service.Status.TheVariants as status
use Rattle.txn_tree.specs.declared.row.Row.{Row}
use Rattle.txn_tree.specs.declared.row.State.{State}
use Rattle.txn_tree.specs.declared.row.State.TheVariants.{Active, Marked, Committed, RolledBack}

-- the parent of a branch, where it has one
abbrev pub parent : List Row → ℕ → Option ℕ
parent rows b = option_and_then (λ (r : Row). r.parent) (slice_get rows b)

-- how a branch stands, where there is one
abbrev pub state : List Row → ℕ → Option State
state rows b = option_map (λ (r : Row). r.state) (slice_get rows b)

-- the rows of a tree: the first one has no parent, and each other one has a parent that was made before it
abbrev pub IsParent : ℕ → Option ℕ → Type 0
IsParent b None = b ≡ 0
IsParent b (Some p) = p < b

pub record IsTree (rows : List Row) : Type 0 where
  pub some : 0 < length rows
  pub parents : (b : ℕ) → b < length rows → IsParent b (parent rows b)

-- a branch, its parent, the parent of that one and so on, up to so many generations
abbrev pub lineage : ℕ → List Row → ℕ → List ℕ
lineage zero rows b = []
lineage (suc n) rows b = b ∷ option_map_or (λ p. lineage n rows p) (parent rows b) []

-- the ancestors of a branch, from itself to the top; a parent is made before its child, so these are all
unfoldable pub ancestors : List Row → ℕ → List ℕ
ancestors rows b = lineage (suc b) rows b

-- a is b, or an ancestor of b's parent
unfoldable pub is_ancestor : List Row → ℕ → ℕ → Bool
is_ancestor rows a b = list_any (λ c. c == a) (ancestors rows b)

-- some branch is an ancestor of both
unfoldable pub are_related : List Row → ℕ → ℕ → Bool
are_related rows a b = list_any (λ c. is_ancestor rows c b) (ancestors rows a)

-- how deep a branch lies; the top has depth 1
unfoldable pub depth : List Row → ℕ → ℕ
depth rows b = length (ancestors rows b)

-- a state as a status of the standard
abbrev pub shown : State → Status
shown Active = status.Active
shown Marked = status.MarkedRollback
shown Committed = status.Committed
shown RolledBack = status.RolledBack

-- whether a transaction has not ended
abbrev pub is_live : State → Bool
is_live Active = true
is_live Marked = true
is_live _ = false

abbrev pub is_live_branch : List Row → ℕ → Bool
is_live_branch rows b = option_map_or is_live (state rows b) false

abbrev pub is_committed : State → Bool
is_committed Committed = true
is_committed _ = false

-- a branch is the given one, or it was committed and so was each one between them, within so many generations
abbrev pub is_committed_within : ℕ → List Row → ℕ → ℕ → Bool
is_committed_within zero rows above b = false
is_committed_within (suc n) rows above b =
    b == above
    || (option_map_or is_committed (state rows b) false
    && option_map_or (λ p. is_committed_within n rows above p) (parent rows b) false)

-- a branch is the given one, or it was committed and its parent is committed up to the given one
unfoldable pub is_committed_up : List Row → ℕ → ℕ → Bool
is_committed_up rows above b = is_committed_within (suc b) rows above b
