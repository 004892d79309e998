-- What the calls on a tree answer, and the rows that they leave: the operations create_subtransaction and rollback_only of
-- interface Coordinator, and commit and rollback of interface Terminator (module CosTransactions). The limits, and which
-- live subtransaction is rolled back next, are our profile.
use Rattle.std.specs.Prelude.{ℕ, ◌==◌, ◌&&◌, ◌||◌, Bool, true, false, not, nat_lt, nat_le, List, [], ◌∷◌, ◌++◌, length, filter, slice_set, Option, Some, None, Result, Ok, Err, if◌then◌else◌}
use Rattle.std.specs.List.{range_with_len}
use Rattle.std.specs.Option.{option_map, option_map_or}
use Rattle.ots_model.specs.declared.service.Status.{Status}
use Rattle.txn_tree.specs.Limits.{depth_limit, transaction_limit}
use Rattle.txn_tree.specs.Rows.{parent, state, is_ancestor, depth, shown, is_live_branch}
use Rattle.txn_tree.specs.declared.row.Row.{Row}
use Rattle.txn_tree.specs.declared.row.State.{State}
use Rattle.txn_tree.specs.declared.row.State.TheVariants.{Active, Marked, Committed, RolledBack}
use Rattle.txn_tree.specs.declared.row.TreeFault.{TreeFault}
use Rattle.txn_tree.specs.declared.row.TreeFault.TheVariants as fault

-- a tree, and for how many more transactions memory is taken
pub record TreeParts : Type 0 where
  pub rows : List Row
  pub room : ℕ

-- the top alone
abbrev pub top_alone : List Row
top_alone = record { parent = None; state = Active } ∷ []

-- the status of a branch
abbrev pub status : List Row → ℕ → Option Status
status rows b = option_map shown (state rows b)

-- the status of a branch's parent; that of the top is its own
abbrev pub parent_status : List Row → ℕ → Option Status
parent_status rows b = status rows (option_map_or (λ p. p) (parent rows b) b)

-- that of its top-level ancestor: a tree has one top
abbrev pub top_status : List Row → ℕ → Option Status
top_status rows b = status rows 0

-- a call that has an answer only where it is refused
abbrev pub answer : Option TreeFault → Result (Unit {0}) TreeFault
answer None = Ok tt
answer (Some f) = Err f

-- a branch stands so from now on
abbrev pub with_state : List Row → ℕ → State → List Row
with_state rows b s = slice_set rows b (record { parent = parent rows b; state = s })

-- no further transaction fits below this one
abbrev pub is_full : List Row → ℕ → Bool
is_full rows b = nat_le depth_limit (depth rows b) || nat_le transaction_limit (length rows)

-- why a branch gets no subtransaction
abbrev pub creating_by : Bool → Option State → Option TreeFault
creating_by full (Some Active) = if full then Some fault.SubtransactionsUnavailable else None
creating_by full (Some Marked) = Some fault.MarkedAlready
creating_by full _ = Some fault.Inactive

abbrev pub creating : List Row → ℕ → Option TreeFault
creating rows b = creating_by (is_full rows b) (state rows b)

-- the new subtransaction comes last
abbrev pub created : List Row → ℕ → List Row
created rows b = rows ++ record { parent = Some b; state = Active } ∷ []

-- a parent has ended
abbrev pub has_ended : List Row → Option ℕ → Bool
has_ended rows None = false
has_ended rows (Some p) = not (is_live_branch rows p)

abbrev pub is_marked : Option State → Bool
is_marked (Some Marked) = true
is_marked _ = false

-- why a branch isn't ended; to commit it asks for a parent that has not ended, and for no mark
abbrev pub ending : List Row → ℕ → Bool → Option TreeFault
ending rows b committed =
    if not (is_live_branch rows b) || (committed && has_ended rows (parent rows b)) then Some fault.Inactive
    else if committed && is_marked (state rows b) then Some fault.MarkedAlready
    else None

abbrev pub end_state : Bool → State
end_state true = Committed
end_state false = RolledBack

abbrev pub ended : List Row → ℕ → Bool → List Row
ended rows b committed = with_state rows b (end_state committed)

-- why a branch isn't marked
abbrev pub marking : List Row → ℕ → Option TreeFault
marking rows b = if is_live_branch rows b then None else Some fault.Inactive

abbrev pub marked : List Row → ℕ → List Row
marked rows b = with_state rows b Marked

-- a branch is live, and a descendant of another one
abbrev pub is_live_below : List Row → ℕ → ℕ → Bool
is_live_below rows b q = is_live_branch rows q && not (q == b) && is_ancestor rows b q

-- a branch lies deeper than another one, where there is another one
abbrev pub is_deeper : List Row → ℕ → Option ℕ → Bool
is_deeper rows q None = true
is_deeper rows q (Some other) = nat_lt (depth rows other) (depth rows q)

-- of a branch and the deepest of those made later, the deeper one; of equals the one made last
abbrev pub deeper : List Row → ℕ → Option ℕ → Option ℕ
deeper rows q later = if is_deeper rows q later then Some q else later

-- of branches in the order of their making, the deepest; of equals the one made last
abbrev pub deepest : List Row → List ℕ → Option ℕ
deepest rows [] = None
deepest rows (q ∷ qs) = deeper rows q (deepest rows qs)

-- the next one to roll back below a branch
abbrev pub live_under : List Row → ℕ → Option ℕ
live_under rows b = deepest rows (filter (is_live_below rows b) (range_with_len 0 (length rows)))
