-- What is delivered in a world adds no client's call.
use Rattle.std.proofs.Common.{◌≡◌, ℕ, zero, suc, ◌+◌, ◌-◌, Bool, true, false, slice_get, Option, Some, None, refl}
use Rattle.ots_model.specs.declared.tree.Outward.{Outward}
use Rattle.coordinator.specs.declared.said.Said.{Said}
use Rattle.nodes_world.specs.declared.message.Content.{Content}
use Rattle.nodes_world.specs.declared.message.Content.TheVariants as contents
use Rattle.nodes_world.specs.declared.message.Message.{Message}
use Rattle.nodes_world.specs.Deliveries.{answer_event, comes, comes_to, delivers, flows, hears_answer, hears_if, hears_of, hears_reply, is_waited_for, lowest, reaches, receiver_of}
use Rattle.nodes_world.specs.Happenings.{Done, changes, nothing, ◌▹◌}
use Rattle.nodes_world.specs.Nodes.{Stepping, steps}
use Rattle.nodes_world.specs.Objects.{family_key}
use Rattle.nodes_world.specs.World.{Seat, World, is_up, message_numbered, with_message}
use Rattle.nodes_state.proofs.Doing.{Grows}
use Rattle.nodes_ready.proofs.CallsGrow.{again_keeps}
use Rattle.nodes_ready.proofs.EndsGrow.{obeys_keep}
use Rattle.nodes_ready.proofs.Growing.{Keeps, KeepsCalls, calls_stay, calls_then, one_marked, steps_keep}

-- ---- a reply that is heard

answer_heard : (place : ℕ) (m : Message) (from : ℕ) (o : Outward) (answer : Said) (w : World) → slice_get w.messages place ≡ Some m → (b : Bool)
    → KeepsCalls w.messages (hears_if b place m from o answer w).world.messages
answer_heard place m from o answer w there true = by_seat (slice_get w.seats from)
  where
    by_seat : (x : Option Seat)
        → KeepsCalls w.messages (elim x as (λ _. Done) [ Some s ↦ hears_answer place m from o answer s w | None ↦ nothing w ]).world.messages
    by_seat (Some s) =
        let v : World = with_message place (record m { answered = true }) w in
        let stepped : Stepping = steps from (family_key from o.number) (answer_event o answer s.clock) v in
        calls_then w.messages v.messages stepped.done.world.messages
        (one_marked w.messages place m (record m { answered = true }) there refl)
        (steps_keep from (family_key from o.number) (answer_event o answer s.clock) v)
    by_seat None = calls_stay w.messages
answer_heard place m from o answer w there false = calls_stay w.messages

content_heard : (place : ℕ) (m : Message) (c : Content) (answer : Said) (w : World) → slice_get w.messages place ≡ Some m
    → KeepsCalls w.messages (hears_of place m c answer w).world.messages
content_heard place m (contents.Call to act) answer w there = calls_stay w.messages
content_heard place m (contents.Request from o) answer w there = answer_heard place m from o answer w there (is_waited_for w m from o)
content_heard place m (contents.Reply request other) answer w there = calls_stay w.messages

hears_keep : (request : ℕ) (answer : Said) → Keeps (hears_reply request answer)
unfolding hears_reply
hears_keep request answer w = by_message (message_numbered w request) refl
  where
    by_message : (o : Option Message) → message_numbered w request ≡ o
        → KeepsCalls w.messages (elim o as (λ _. Done) [ Some m ↦ hears_of (request - 1) m m.content answer w | None ↦ nothing w ]).world.messages
    by_message (Some m) there = content_heard (request - 1) m m.content answer w there
    by_message None there = calls_stay w.messages

-- ---- deliveries

reaches_keep : (number : ℕ) (c : Content) → Keeps (reaches number c)
unfolding reaches
reaches_keep number (contents.Call to act) w = again_keeps number to act w
reaches_keep number (contents.Request from o) w = obeys_keep number o w
reaches_keep number (contents.Reply request answer) w = hears_keep request answer w

pub reaches_grow : (number : ℕ) (c : Content) → Grows (reaches number c)
reaches_grow number c = λ w. (reaches_keep number c w).longer

to_keeps : (b : Bool) (number : ℕ) (c : Content) → Keeps (comes_to b number c)
to_keeps true number c w = reaches_keep number c w
to_keeps false number c w = calls_stay w.messages

comes_keep : (o : Option ℕ) (number : ℕ) (c : Content) → Keeps (comes o number c)
comes_keep (Some receiver) number c w = to_keeps (is_up w receiver) number c w
comes_keep None number c w = calls_stay w.messages

delivers_keep : (place : ℕ) → Keeps (delivers place)
unfolding delivers
delivers_keep place w = by_message (slice_get w.messages place) refl
  where
    by_message : (o : Option Message) → slice_get w.messages place ≡ o
        → KeepsCalls w.messages (elim o as (λ _. Done) [
          | Some m ↦ changes (with_message place (record m { delivered = true }) w) ▹ comes (receiver_of w m.content) (place + 1) m.content
          | None ↦ nothing w
        ]).world.messages
    by_message (Some m) there =
        let v : World = with_message place (record m { delivered = true }) w in
        calls_then w.messages v.messages (comes (receiver_of w m.content) (place + 1) m.content v).world.messages
        (one_marked w.messages place m (record m { delivered = true }) there refl)
        (comes_keep (receiver_of w m.content) (place + 1) m.content v)
    by_message None there = calls_stay w.messages

flow_keeps : (n : ℕ) (w : World) (o : Option ℕ) → Keeps (flows n)
    → KeepsCalls w.messages (elim o as (λ _. Done) [ Some place ↦ delivers place w ▹ flows n | None ↦ nothing w ]).world.messages
flow_keeps n w (Some place) others =
    let v : World = (delivers place w).world in
    calls_then w.messages v.messages (flows n v).world.messages (delivers_keep place w) (others v)
flow_keeps n w None others = calls_stay w.messages

pub flows_keep : (count : ℕ) → Keeps (flows count)
unfolding flows
flows_keep zero w = calls_stay w.messages
flows_keep (suc n) w = flow_keeps n w (lowest w) (flows_keep n)

pub flows_grow : (count : ℕ) → Grows (flows count)
flows_grow count = λ w. (flows_keep count w).longer
