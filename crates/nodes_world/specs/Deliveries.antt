-- What a delivery does: a request reaches an end's resource, a reply reaches the node that waits for it (our profile).
use Rattle.std.specs.Prelude.{ℕ, zero, suc, ◌+◌, ◌-◌, ◌==◌, ◌&&◌, ◌||◌, Bool, true, false, not, [], ◌∷◌, position, slice_get, Option, Some, None}
use Rattle.std.specs.Option.{option_map, option_map_or, option_and_then}
use Rattle.ots_model.specs.declared.line.Line.TheVariants as lines
use Rattle.ots_model.specs.declared.completion.Disposition.TheVariants as dispositions
use Rattle.ots_model.specs.declared.tree.Heard.{Heard}
use Rattle.ots_model.specs.declared.completion.Heard.TheVariants as phase_hears
use Rattle.ots_model.specs.declared.tree.Heard.TheVariants as hears
use Rattle.ots_model.specs.declared.tree.Outward.{Outward}
use Rattle.coordinator.specs.declared.event.Act.TheVariants as acts
use Rattle.coordinator.specs.declared.event.Event.{Event}
use Rattle.coordinator.specs.declared.said.Said.{Said}
use Rattle.coordinator.specs.declared.said.Said.TheVariants as said
use Rattle.nodes_world.specs.declared.message.Content.{Content}
use Rattle.nodes_world.specs.declared.message.Content.TheVariants as contents
use Rattle.nodes_world.specs.declared.message.Message.{Message}
use Rattle.nodes_world.specs.Objects.{place_of, family_key}
use Rattle.nodes_world.specs.Told.{Known, Dropped}
use Rattle.nodes_world.specs.World.{World, Seat, NamedKey, is_up, life_at, message_numbered, referred, with_message}
use Rattle.nodes_world.specs.Happenings.{Done, nothing, tells, changes, ◌▹◌}
use Rattle.nodes_world.specs.Nodes.{steps}
use Rattle.nodes_world.specs.Ends.{obeys}
use Rattle.nodes_world.specs.Clients.{acts_at, answer_only}

-- ---- replies

-- what the caller of a participant hears in an answer
unfoldable pub heard_in : Said → Heard
heard_in said.Plain = hears.Phase phase_hears.Done
heard_in (said.State s) = hears.Told s
heard_in (said.Voted vote) = hears.Phase (phase_hears.Voted vote)
heard_in said.TransactionRolledBack = hears.Phase phase_hears.RolledBack
heard_in said.HeuristicMixed = hears.Phase (phase_hears.Heuristic dispositions.Mixed)
heard_in said.HeuristicHazard = hears.Phase (phase_hears.Heuristic dispositions.Unknown)
heard_in said.HeuristicRollback = hears.Phase (phase_hears.Heuristic dispositions.RolledBack)
heard_in said.HeuristicCommit = hears.Phase (phase_hears.Heuristic dispositions.Committed)
heard_in said.NotPrepared = hears.Phase phase_hears.NotPrepared
heard_in said.ObjectNotExist = hears.Phase phase_hears.NoObject
heard_in _ = hears.Phase phase_hears.Other

-- the seat at a place is in this life
abbrev pub is_in_life : World → ℕ → ℕ → Bool
is_in_life w place life = option_map_or (λ (l : ℕ). l == life) (life_at w place) false

-- the sender of a word waits for what becomes of it: it has heard nothing of it, and is in the life in which it sent it
abbrev pub is_waited_for : World → Message → ℕ → Outward → Bool
is_waited_for w m from o = not m.answered && is_in_life w from o.number.life

-- an answer to a word
abbrev pub answer_event : Outward → Said → ℕ → Event
answer_event o answer now = record { key = None; branch = 0; now = now; act = acts.Answer o.number (heard_in answer) }

-- the sender hears an answer, and waits no longer
abbrev pub hears_answer : ℕ → Message → ℕ → Outward → Said → Seat → World → Done
hears_answer place m from o answer s w =
    changes (with_message place (record m { answered = true }) w)
    ▹ (λ (v : World). (steps from (family_key from o.number) (answer_event o answer s.clock) v).done)

abbrev pub hears_if : Bool → ℕ → Message → ℕ → Outward → Said → World → Done
hears_if true place m from o answer w = elim (slice_get w.seats from) [
  | Some s ↦ hears_answer place m from o answer s w
  | None ↦ nothing w
]
hears_if false place m from o answer w = nothing w

-- the reply to the message at a place is heard by its sender where that waits for it
abbrev pub hears_of : ℕ → Message → Content → Said → World → Done
hears_of place m (contents.Request from o) answer w = hears_if (is_waited_for w m from o) place m from o answer w
hears_of place m (contents.Call to act) answer w = nothing w
hears_of place m (contents.Reply request other) answer w = nothing w

unfoldable pub hears_reply : ℕ → Said → World → Done
hears_reply request answer w = elim (message_numbered w request) [
  | Some m ↦ hears_of (request - 1) m m.content answer w
  | None ↦ nothing w
]

-- ---- any message

-- the place of the seat to which a message goes
abbrev pub sender_of : Content → Option ℕ
sender_of (contents.Call to act) = None
sender_of (contents.Request from o) = Some from
sender_of (contents.Reply request answer) = None

unfoldable pub receiver_of : World → Content → Option ℕ
receiver_of w (contents.Call to act) = Some (place_of to)
receiver_of w (contents.Request from o) = option_map (λ (r : NamedKey). place_of r.key) (referred w o.to)
receiver_of w (contents.Reply request answer) =
    option_and_then (λ (m : Message). sender_of m.content) (message_numbered w request)

-- a message reaches its receiver; a client's call that comes again is one with the same key
unfoldable pub reaches : ℕ → Content → World → Done
reaches number (contents.Call to act) w = acts_at number to act answer_only w
reaches number (contents.Request from o) w = obeys number o w
reaches number (contents.Reply request answer) w = hears_reply request answer w

-- it comes to one that is up, or is dropped
abbrev pub comes_to : Bool → ℕ → Content → World → Done
comes_to true number content w = tells (Known (lines.Recv number) ∷ []) w ▹ reaches number content
comes_to false number content w = tells (Dropped number ∷ []) w

abbrev pub comes : Option ℕ → ℕ → Content → World → Done
comes (Some receiver) number content w = comes_to (is_up w receiver) number content w
comes None number content w = nothing w

-- the message at a place is delivered
unfoldable pub delivers : ℕ → World → Done
delivers place w = elim (slice_get w.messages place) [
  | Some m ↦ changes (with_message place (record m { delivered = true }) w) ▹ comes (receiver_of w m.content) (place + 1) m.content
  | None ↦ nothing w
]

-- ---- flow

-- the place of the lowest message that was never delivered, and isn't passed over
unfoldable pub lowest : World → Option ℕ
lowest w = position (λ (m : Message). not (m.delivered || m.lost)) w.messages

-- that message is delivered, up to so many times
unfoldable pub flows : ℕ → World → Done
flows zero w = nothing w
flows (suc n) w = elim (lowest w) [ Some place ↦ delivers place w ▹ flows n | None ↦ nothing w ]
