-- Who takes part in a top-level transaction (nested transactions of the Transaction Service): each resource that was
-- registered with it, or with a subtransaction that was committed up to it.
use Rattle.std.specs.Prelude.{◌≡◌, ℕ, ◌<◌, ◌≤◌, ◌==◌, Bool, true, false, List, [], ◌∷◌, ◌++◌, length, map, count_by, Option, Some, None, if◌then◌else◌}
use Rattle.std.specs.Option.{option_map_or, option_and_then}
use Rattle.ots_model.specs.declared.completion.Vote.{Vote}
use Rattle.txn_tree.specs.declared.row.Row.{Row}
use Rattle.txn_tree.specs.Rows.{parent, is_committed_up}
use Rattle.txn_tree.specs.Calls.{top_alone, created, creating, marked, marking, ended, ending}
use Rattle.resource_votes.specs.declared.registration.Registration.{Registration}
use Rattle.resource_votes.specs.Ballots.{Ballots, no_ballots, numbered, registered, registering, registered_aware, registering_aware, registered_sync, registering_sync, adopted, voted, participants}

-- The accepted calls on a tree and its registrations, until the top is committed: the rows that they leave, the ballots, and for
-- each registration the transaction that it takes part in, if it does. Where a subtransaction is committed, its parent
-- adopts its list.
pub data Leave : List Row → Ballots → List (Option ℕ) → Type 0 where
  nothing : Leave top_alone no_ballots []
  creates : (rows : List Row) (b : Ballots) (e : List (Option ℕ)) (p : ℕ) → Leave rows b e → p < length rows → creating rows p ≡ None
      → Leave (created rows p) b e
  marks : (rows : List Row) (b : Ballots) (e : List (Option ℕ)) (p : ℕ) → Leave rows b e → p < length rows → marking rows p ≡ None
      → Leave (marked rows p) b e
  registers : (rows : List Row) (b : Ballots) (e : List (Option ℕ)) (p : ℕ) (to : List ℕ) (aware : Bool) → Leave rows b e → p < length rows → registering rows p b ≡ None
      → Leave rows (registered p to aware b) (e ++ Some p ∷ [])
  registers_aware : (rows : List Row) (b : Ballots) (e : List (Option ℕ)) (p : ℕ) (to : List ℕ) → Leave rows b e → p < length rows → registering_aware rows p b ≡ None
      → Leave rows (registered_aware p to b) (e ++ None ∷ [])
  registers_sync : (rows : List Row) (b : Ballots) (e : List (Option ℕ)) (p : ℕ) (to : List ℕ) → Leave rows b e → p < length rows → registering_sync rows p b ≡ None
      → Leave rows (registered_sync p to b) e
  votes : (rows : List Row) (b : Ballots) (e : List (Option ℕ)) (registration : ℕ) (v : Vote) → Leave rows b e → 0 < registration → registration ≤ length b.registrations
      → Leave rows (voted registration v b) e
  rolls_back : (rows : List Row) (b : Ballots) (e : List (Option ℕ)) (p : ℕ) → Leave rows b e → p < length rows → ending rows p false ≡ None
      → Leave (ended rows p false) b e
  commits : (rows : List Row) (b : Ballots) (e : List (Option ℕ)) (child p : ℕ) → Leave rows b e → child < length rows → parent rows child ≡ Some p → ending rows child true ≡ None
      → Leave (ended rows child true) (adopted child p b) e

-- how often a number is in a list
abbrev pub times : ℕ → List ℕ → ℕ
times i xs = count_by (λ x. x == i) xs

-- the transaction that a registration takes part in
abbrev pub joined : List (Option ℕ) → ℕ → Option ℕ
joined e i = option_and_then (λ (t : Option ℕ). t) (numbered e i)

-- once where that transaction was committed up to the given one, and else not at all
abbrev pub share : List Row → ℕ → List (Option ℕ) → ℕ → ℕ
share rows top e i = option_map_or (λ t. if is_committed_up rows top t then 1 else 0) (joined e i) 0

-- the participants of the top are exactly the registrations whose transaction was committed up to it, each once
abbrev pub ParticipantsAreCommittedUp : Type 0
ParticipantsAreCommittedUp = (rows : List Row) (b : Ballots) (e : List (Option ℕ)) → Leave rows b e
    → (i : ℕ) → times i (map (λ (r : Registration). r.index) (participants 0 b)) ≡ share rows 0 e i
