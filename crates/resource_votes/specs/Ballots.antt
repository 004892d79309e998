-- Who is registered with the transactions of a tree, what each voted, and whom the top asks: the operations
-- register_resource, register_subtran_aware and register_synchronization of interface Coordinator (module CosTransactions).
-- The limits, and the order in which resources are asked, are our profile.
use Rattle.std.specs.Prelude.{◌≡◌, IsErr, IsErrOf, ℕ, ◌+◌, ◌-◌, ◌==◌, ◌&&◌, Bool, true, false, nat_lt, nat_le, zero, suc, List, [], ◌∷◌, ◌++◌, length, replicate, find, slice_set, Option, Some, None, Result, Ok, Err, if◌then◌else◌}
use Rattle.std.specs.List.{slice_get, filter_map}
use Rattle.std.specs.Option.{option_or, option_and_then}
use Rattle.ots_model.specs.declared.service.Status.{Status}
use Rattle.ots_model.specs.declared.service.Status.TheVariants as status
use Rattle.ots_model.specs.declared.completion.Vote.{Vote}
use Rattle.txn_tree.specs.declared.row.Row.{Row}
use Rattle.txn_tree.specs.Calls as tree
use Rattle.resource_votes.specs.Limits.{registration_limit, synchronization_limit, list_count}
use Rattle.resource_votes.specs.Lists.{list_at, added_to, handed_lists}
use Rattle.resource_votes.specs.declared.registration.Registration.{Registration}
use Rattle.resource_votes.specs.declared.registration.VoteFault.{VoteFault}
use Rattle.resource_votes.specs.declared.registration.VoteFault.TheVariants as fault

-- the registrations of both kinds in the order of their calls, the vote of each, the synchronizations in the order of
-- theirs, and for each branch the numbers of the registrations in its list
pub record Ballots : Type 0 where
  pub registrations : List Registration
  pub votes : List (Option Vote)
  pub synchronizations : List Registration
  pub lists : List (List ℕ)

-- these, and for how many more registrations of any kind memory is taken
pub record VotesParts : Type 0 where
  pub ballots : Ballots
  pub room : ℕ

abbrev pub no_ballots : Ballots
no_ballots = record { registrations = []; votes = []; synchronizations = []; lists = replicate list_count [] }

-- what has this number, counted from 1
abbrev pub numbered : {A : Type 0} → List A → ℕ → Option A
numbered xs zero = None
numbered xs (suc i) = slice_get xs i

-- by how a transaction stands nothing is registered with it
abbrev pub by_status : Option Status → Option VoteFault
by_status (Some status.Active) = None
by_status (Some status.MarkedRollback) = Some fault.MarkedAlready
by_status _ = Some fault.Inactive

-- there are as many as there may be
abbrev pub by_count : ℕ → ℕ → Option VoteFault
by_count limit count = if nat_le limit count then Some fault.NoResources else None

-- a call that has an answer only where it is refused
abbrev pub answer : Option VoteFault → Result (Unit {0}) VoteFault
answer None = Ok tt
answer (Some f) = Err f

-- an answer: the cause for which the call is refused, where there is one; else the call is accepted, or memory is wanted
-- where none was taken
abbrev pub AnswersTo : Option VoteFault → ℕ → Result ℕ VoteFault → Type 0
AnswersTo (Some cause) room result = IsErrOf result cause
AnswersTo None room result = IsErr result → IsErrOf result fault.Memory × (room ≡ 0)

-- why a resource isn't registered
abbrev pub registering : List Row → ℕ → Ballots → Option VoteFault
registering rows branch b = option_or (by_status (tree.status rows branch)) (by_count registration_limit (length b.registrations))

-- why a resource isn't registered that is to be told of the end of a subtransaction alone
abbrev pub registering_aware : List Row → ℕ → Ballots → Option VoteFault
registering_aware rows branch b = if branch == 0 then Some fault.NotSubtransaction else registering rows branch b

-- why a synchronization isn't registered
abbrev pub registering_sync : List Row → ℕ → Ballots → Option VoteFault
registering_sync rows branch b =
    if branch == 0
    then option_or (by_status (tree.status rows branch)) (by_count synchronization_limit (length b.synchronizations))
    else Some fault.SynchronizationUnavailable

-- a registration of either kind: the next one, which hasn't voted
abbrev pub entered : ℕ → List ℕ → Bool → Ballots → Ballots
entered branch to aware b = record b {
  registrations = b.registrations ++ record { index = length b.registrations + 1; branch = branch; to = to; aware = aware } ∷ [];
  votes = b.votes ++ None ∷ [];
}

-- a resource takes part: it comes last in the list of its transaction
abbrev pub registered : ℕ → List ℕ → Bool → Ballots → Ballots
registered branch to aware b =
    record (entered branch to aware b) { lists = added_to b.lists branch (length b.registrations + 1) }

-- no list changes: a resource that is told of the end of a subtransaction alone
abbrev pub registered_aware : ℕ → List ℕ → Ballots → Ballots
registered_aware branch to b = entered branch to true b

abbrev pub registered_sync : ℕ → List ℕ → Ballots → Ballots
registered_sync branch to b = record b {
  synchronizations = b.synchronizations ++ record { index = length b.synchronizations + 1; branch = branch; to = to; aware = false } ∷ [];
}

-- a subtransaction was committed: its list comes last in that of its parent, in one piece
abbrev pub adopted : ℕ → ℕ → Ballots → Ballots
adopted child parent b = record b { lists = handed_lists b.lists child parent }

abbrev pub voted : ℕ → Vote → Ballots → Ballots
voted registration v b = record b { votes = slice_set b.votes (registration - 1) (Some v) }

abbrev pub vote_of : ℕ → Ballots → Option Vote
vote_of registration b = option_and_then (λ (v : Option Vote). v) (numbered b.votes registration)

-- whom a transaction asks, in this order
abbrev pub participants : ℕ → Ballots → List Registration
participants top b = filter_map (numbered b.registrations) (list_at b.lists top)

-- the next one that is told of the end of this subtransaction
abbrev pub is_aware_after : ℕ → ℕ → Registration → Bool
is_aware_after branch after r = r.aware && r.branch == branch && nat_lt after r.index

abbrev pub aware : ℕ → ℕ → Ballots → Option Registration
aware branch after b = find (is_aware_after branch after) b.registrations
