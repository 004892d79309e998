-- A family: a top-level transaction and its subtransactions, who is registered with them, the calls under way, and what has
-- happened (Transaction Service, nested transactions; that the calls of one family go on beside each other, each with one
-- word out at most, is our profile). A transaction is a branch of the family's tree; the top-level one is branch 0.
use Rattle.std.specs.Prelude.{ℕ, Bool, false, List, [], ◌∷◌, Option, Some, None, slice_set, position, ◌==◌, ◌&&◌, if◌then◌else◌}
use Rattle.std.specs.List.{slice_get}
use Rattle.std.specs.Option.{option_map_or, option_and_then}
use Rattle.ior_refs.specs.declared.key.ObjectKey.{ObjectKey}
use Rattle.ots_model.specs.declared.completion.CallNumber.{CallNumber}
use Rattle.ots_model.specs.declared.completion.Stood.{Stood}
use Rattle.txn_tree.specs.Calls.{top_alone}
use Rattle.txn_tree.specs.declared.row.Row.{Row}
use Rattle.resource_votes.specs.Ballots.{Ballots, no_ballots}
use Rattle.resource_votes.specs.declared.registration.Registration.{Registration}
use Rattle.two_phase.specs.Stages.{Standing, Waiting, no_room}
pub use Rattle.coordinator.specs.declared.call.Ending.{Ending}
pub use Rattle.coordinator.specs.declared.call.Ending.TheVariants.{TellsRollback, TellsCommit, RollsBackUpdates}
pub use Rattle.coordinator.specs.declared.call.Leg.{Leg}
pub use Rattle.coordinator.specs.declared.call.Leg.TheVariants.{Below, Own, Before, Deciding, After}
pub use Rattle.coordinator.specs.declared.call.Stage.{Stage}
pub use Rattle.coordinator.specs.declared.call.Stage.TheVariants.{Going, Finishing, Completing, Over}
pub use Rattle.coordinator.specs.declared.call.Superior.{Superior}
use Rattle.coordinator.specs.declared.event.Event.{Event}
use Rattle.coordinator.specs.declared.said.Said.{Said}
use Rattle.coordinator.specs.declared.said.Entry.{Entry}

-- that is still to be told to a resource
pub record Duty : Type 0 where
  pub ending : Ending
  pub resource : Registration

-- what a call is for: to commit its transaction, where reports may be asked for; or to roll it back, and then to say so
pub data Aim : Type 0 where
  Commits : (asked : Bool) → Aim
  RollsBack : (says : Said) → Aim

-- a call under way, which ends its transaction
pub record Call : Type 0 where
  -- the place in the history of the entry that waits for its answer; a tick waits for none
  pub caller : Option ℕ
  pub aim : Aim
  pub leg : Leg
  -- what it still has to tell before it goes on
  pub left : List Duty
  -- the serial number of its word that is out
  pub out : Option ℕ

pub record Family : Type 0 where
  -- the key of the top-level transaction's coordinator
  pub key : ObjectKey
  -- the moment at which its time is over
  pub deadline : Option ℕ
  pub superior : Option Superior
  pub stage : Stage
  -- the tree of transactions
  pub rows : List Row
  -- who is registered
  pub ballots : Ballots
  -- for each branch the call under way that ends it
  pub calls : List (Option Call)
  -- the completion of the top-level transaction
  pub completion : Standing
  -- what the journal answered to the Done of the decision record, once it was asked
  pub closed : Option Stood
  -- how many words have gone out; they are numbered from 1
  pub serial : ℕ
  -- the history, in order
  pub entries : List Entry

-- a family, and the event for which memory was taken
pub record FamilyParts : Type 0 where
  pub family : Family
  pub ready : Option Event

-- a new family of a root: the top-level transaction alone
abbrev pub new_family : ObjectKey → Option ℕ → Family
new_family key deadline = record {
  key = key;
  deadline = deadline;
  superior = None;
  stage = Going;
  rows = top_alone;
  ballots = no_ballots;
  calls = None ∷ [];
  completion = Waiting no_room;
  closed = None;
  serial = 0;
  entries = [];
}

-- the call under way that ends a branch
abbrev pub call_at : Family → ℕ → Option Call
call_at f b = option_and_then (λ (c : Option Call). c) (slice_get f.calls b)

-- a call is under way
abbrev pub with_call : ℕ → Call → Family → Family
with_call b c f = record f { calls = slice_set f.calls b (Some c) }

-- it is so no more
abbrev pub without_call : ℕ → Family → Family
without_call b f = record f { calls = slice_set f.calls b None }

-- the number of a word of this family
abbrev pub number_of : Family → ℕ → CallNumber
number_of f serial = record { life = f.key.life; slot = f.key.slot; generation = f.key.generation; serial = serial }

-- a number is one of this family's
abbrev pub is_own_number : Family → CallNumber → Bool
is_own_number f n = n.life == f.key.life && n.slot == f.key.slot && n.generation == f.key.generation

-- a call's word that is out has this number
abbrev pub has_out : ℕ → Option Call → Bool
has_out serial c = option_map_or (λ (d : Call). option_map_or (λ s. s == serial) d.out false) c false

-- the branch whose call has the word with this number out
unfoldable pub waiting_for : Family → CallNumber → Option ℕ
waiting_for f n = if is_own_number f n then position (has_out n.serial) f.calls else None
