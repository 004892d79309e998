-- A message as it comes to its receiver, and who waits for a reply (our profile).
use Rattle.std.specs.Prelude.{◌≡◌, ℕ, List, slice_get, Option, Some, None, if◌then◌else◌}
use Rattle.std.specs.Option.{option_and_then}
use Rattle.ots_model.specs.declared.completion.CallNumber.{CallNumber}
use Rattle.nodes_world.specs.declared.message.Content.{Content}
use Rattle.nodes_world.specs.declared.message.Content.TheVariants as contents
use Rattle.nodes_world.specs.declared.message.Message.{Message}
use Rattle.nodes_world.specs.Deliveries.{is_waited_for, receiver_of}
use Rattle.nodes_world.specs.World.{NamedKey, World, message_numbered}
use Rattle.nodes_parts.specs.Referring.{referred_in}
use Rattle.nodes_state.specs.declared.state.State.{State}

-- what the message at a place says
pub record SaysAt (w : World) (place : ℕ) (content : Content) : Type 0 where
  pub message : Message
  pub there : slice_get w.messages place ≡ Some message
  pub says : message.content ≡ content

-- the place of the seat to which the message at a place goes
abbrev pub receiver_at : World → ℕ → Option ℕ
receiver_at w place = option_and_then (λ (m : Message). receiver_of w m.content) (slice_get w.messages place)

-- who waits for what becomes of a word, and the number of the word
abbrev pub waits_in : World → Message → Content → Option (ℕ × CallNumber)
waits_in w m (contents.Call to act) = None
waits_in w m (contents.Request from o) = if is_waited_for w m from o then Some (from, o.number) else None
waits_in w m (contents.Reply request answer) = None

-- so for the reply to the message with a number
abbrev pub waits_for : World → ℕ → Option (ℕ × CallNumber)
waits_for w request = option_and_then (λ (m : Message). waits_in w m m.content) (message_numbered w request)

-- the resource to which a word leads
abbrev pub led_by : List (List ℕ × NamedKey) → Content → Option NamedKey
led_by referred (contents.Call to act) = None
led_by referred (contents.Request from o) = referred_in referred o.to
led_by referred (contents.Reply request answer) = None

-- so for the message at a place
abbrev pub led_at : State → ℕ → Option NamedKey
led_at s place = option_and_then (λ (m : Message). led_by s.names.referred m.content) (slice_get s.messages place)
