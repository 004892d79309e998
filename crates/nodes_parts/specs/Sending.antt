-- The messages of a world, as the code keeps them (our profile).
use Rattle.std.specs.Prelude.{◌≡◌, ℕ, ◌<◌, ◌≤◌, ◌||◌, Bool, true, false, not, List, length, slice_get, slice_set, Option, Some, None}
use Rattle.std.specs.Option.{option_and_then}
use Rattle.ior_refs.specs.declared.key.ObjectKey.{ObjectKey}
use Rattle.coordinator.specs.declared.event.Act.{Act}
use Rattle.ots_world.specs.declared.fault.WorldFault.{WorldFault}
use Rattle.ots_world.specs.declared.fault.WorldFault.TheVariants as faults
use Rattle.nodes_world.specs.Limits.{message_limit}
use Rattle.nodes_world.specs.Happenings.{new_message}
use Rattle.nodes_world.specs.declared.message.Content.{Content}
use Rattle.nodes_world.specs.declared.message.Content.TheVariants as contents
use Rattle.nodes_world.specs.declared.message.Message.{Message}

-- it was never delivered, and isn't passed over
abbrev pub is_waiting : Message → Bool
is_waiting m = not (m.delivered || m.lost)

-- each message before this place was delivered, or is passed over; and there are no more than may be
pub record ArePassed (messages : List Message) (passed : ℕ) : Type 0 where
  pub within : passed ≤ length messages
  pub few : length messages ≤ message_limit
  pub each : (i : ℕ) (m : Message) → i < passed → slice_get messages i ≡ Some m → is_waiting m ≡ false

-- so many of these, from the front, were delivered or are passed over
pub record CountsPassed (count : ℕ) (messages : List Message) : Type 0 where
  pub within : count ≤ length messages
  pub each : (i : ℕ) (m : Message) → i < count → slice_get messages i ≡ Some m → is_waiting m ≡ false
  pub next : (m : Message) → slice_get messages count ≡ Some m → is_waiting m ≡ true

-- why a message can't go out: memory ran out, or it would be one too many
abbrev pub CannotSend : List Message → WorldFault → Type 0
CannotSend messages faults.Memory = Unit {0}
CannotSend messages (faults.Limit n) = (n ≡ message_limit) × (message_limit ≤ length messages)
CannotSend messages faults.Names = ⊥

-- a message as it goes out: it may stand as delivered at once
abbrev pub as_sent : Content → Bool → Message
as_sent content delivered = record (new_message content) { delivered = delivered }

-- the message at a place was delivered, or answered
abbrev pub marked_delivered : ℕ → List Message → List Message
marked_delivered place messages = elim (slice_get messages place) [
  | Some m ↦ slice_set messages place (record m { delivered = true })
  | None ↦ messages
]

abbrev pub marked_answered : ℕ → List Message → List Message
marked_answered place messages = elim (slice_get messages place) [
  | Some m ↦ slice_set messages place (record m { answered = true })
  | None ↦ messages
]

-- what a client calls in a message
abbrev pub called_by : Content → Option (ObjectKey × Act)
called_by (contents.Call to act) = Some (to, act)
called_by (contents.Request from o) = None
called_by (contents.Reply request answer) = None

abbrev pub called_in : List Message → ℕ → Option (ObjectKey × Act)
called_in messages place = option_and_then (λ (m : Message). called_by m.content) (slice_get messages place)
