-- What comes of a client's call adds no client's call but that one.
use Rattle.std.proofs.Common.{◌≡◌, inl, inr, ℕ, ◌+◌, Bool, true, false, List, [], ◌∷◌, ◌++◌, slice_get, Option, Some, None, Result, Ok, Err, refl, sym, ap, ◌∙◌, arith, length-append}
use Rattle.service_node.specs.Given.{node_makes}
use Rattle.ior_refs.specs.declared.key.ObjectKey.{ObjectKey}
use Rattle.coordinator.specs.declared.event.Act.{Act}
use Rattle.coordinator.specs.declared.event.Act.TheVariants as acts
use Rattle.coordinator.specs.declared.node.NodeFault.{NodeFault}
use Rattle.coordinator.specs.declared.said.Said.{Said}
use Rattle.coordinator.specs.declared.said.Said.TheVariants as said
use Rattle.coordinator.specs.declared.said.StepAnswer.{StepAnswer}
use Rattle.coordinator.specs.Node.{Node}
use Rattle.coordinator.specs.NodeSlots.{Created, creates}
use Rattle.nodes_world.specs.declared.deed.Manner.{Manner}
use Rattle.nodes_world.specs.declared.deed.Manner.TheVariants as manners
use Rattle.nodes_world.specs.declared.message.Content.TheVariants as contents
use Rattle.nodes_world.specs.declared.message.Message.{Message}
use Rattle.nodes_world.specs.Clients.{acts_at, answer_only, answered_with, begins, begins_at, begun_with, call_event, calls, created, creates_sub, is_registered, registered, registered_if, registering, registers, registers_at, registers_object, said_in, then_answers}
use Rattle.nodes_world.specs.Ends.{drawn_once, with_end, with_fresh}
use Rattle.nodes_world.specs.Happenings.{Done, client_message, nothing}
use Rattle.nodes_world.specs.Nodes.{Stepping, no_step, steps}
use Rattle.nodes_world.specs.Objects.{place_of, reference, resource_key}
use Rattle.nodes_world.specs.World.{FlatEnd, OfNode, Seat, World, end_in, next_message, node_in, with_sent, with_server}
use Rattle.nodes_clients.specs.Called.{acts_in}
use Rattle.nodes_ready.proofs.EndsGrow.{end_messages}
use Rattle.nodes_ready.proofs.Growing.{Keeps, KeepsCalls, calls_same, calls_stay, calls_then, push_cases, seat_messages, steps_keep}

-- ---- a call goes out

call_of : (a b : ObjectKey) (act other : Act) → contents.Call a act ≡ contents.Call b other → act ≡ other
call_of a b act other e = cc

pub sent_keeps : (messages : List Message) (to : ObjectKey) (act : Act) → node_makes act ≡ false
    → KeepsCalls messages (messages ++ client_message (contents.Call to act) ∷ [])
sent_keeps messages to act given = record {
  longer = omega (arith, length-append messages (client_message (contents.Call to act) ∷ []));
  clients = λ clients place u other called is says. elim (push_cases messages (client_message (contents.Call to act)) u place is) [
    | inl new ↦ ap node_makes (call_of other to called act (sym says ∙ ap (λ (x : Message). x.content) new)) ∙ given
    | inr there ↦ clients place u other called there says
  ];
}

-- ---- it acts, and something comes of its answer

pub acted_keeps : (message : ℕ) (to : ObjectKey) (act : Act) (w : World) → KeepsCalls w.messages (acts_in message to act w).done.world.messages
acted_keeps message to act w = by_seat (slice_get w.seats (place_of to))
  where
    by_seat : (o : Option Seat)
        → KeepsCalls w.messages (elim o as (λ _. Stepping) [
          | Some s ↦ steps (place_of to) to (call_event message to act s.clock) w
          | None ↦ no_step w
        ]).done.world.messages
    by_seat (Some s) = steps_keep (place_of to) to (call_event message to act s.clock) w
    by_seat None = calls_stay w.messages

module _ (message : ℕ) (behind : Said → World → Done) (keeps : (answer : Said) → Keeps (behind answer)) where
  answered_keeps : (o : Option (Result StepAnswer NodeFault)) → Keeps (answered_with message behind o)
  answered_keeps (Some answer) w = keeps (said_in answer) w
  answered_keeps None w = calls_stay w.messages

  pub acts_keep : (to : ObjectKey) (act : Act) → Keeps (acts_at message to act behind)
  unfolding acts_at
  acts_keep to act w = by_seat (slice_get w.seats (place_of to))
    where
      by_seat : (o : Option Seat)
          → KeepsCalls w.messages (elim o as (λ _. Done) [
            | Some s ↦ then_answers message behind (steps (place_of to) to (call_event message to act s.clock) w)
            | None ↦ nothing w
          ]).world.messages
      by_seat (Some s) =
          let stepped : Stepping = steps (place_of to) to (call_event message to act s.clock) w in
          calls_then w.messages stepped.done.world.messages (answered_with message behind stepped.answer stepped.done.world).world.messages
          (steps_keep (place_of to) to (call_event message to act s.clock) w)
          (answered_keeps stepped.answer stepped.done.world)
      by_seat None = calls_stay w.messages

only_keeps : (answer : Said) → Keeps (answer_only answer)
only_keeps answer w = calls_stay w.messages

pub answer_keeps : (message : ℕ) (o : Option (Result StepAnswer NodeFault)) → Keeps (answered_with message answer_only o)
answer_keeps message o = answered_keeps message answer_only only_keeps o

pub again_keeps : (message : ℕ) (to : ObjectKey) (act : Act) → Keeps (acts_at message to act answer_only)
again_keeps message to act = acts_keep message answer_only only_keeps to act

made_keeps : (to : ObjectKey) (act : Act) (behind : Said → World → Done) → node_makes act ≡ false → ((answer : Said) → Keeps (behind answer))
    → Keeps (calls to act behind)
unfolding calls
made_keeps to act behind given keeps w =
    let sent : World = with_sent (client_message (contents.Call to act)) w in
    calls_then w.messages sent.messages (acts_at (next_message w) to act behind sent).world.messages
    (sent_keeps w.messages to act given) (acts_keep (next_message w) behind keeps to act sent)

pub calls_keep : (to : ObjectKey) (act : Act) → node_makes act ≡ false → Keeps (calls to act answer_only)
calls_keep to act given = made_keeps to act answer_only given only_keeps

-- ---- a subtransaction is made

created_keeps : (parent : ObjectKey) (name : List ℕ) (answer : Said) → Keeps (created parent name answer)
created_keeps parent name answer w = by_answer answer
  where
    by_answer : (a : Said) → KeepsCalls w.messages (created parent name a w).world.messages
    by_answer (said.Made branch) = calls_stay w.messages
    by_answer _ = calls_stay w.messages

pub creates_keep : (parent : ObjectKey) (name : List ℕ) → Keeps (creates_sub parent name)
unfolding creates_sub
creates_keep parent name = made_keeps parent acts.CreateSubtransaction (created parent name) refl (created_keeps parent name)

-- ---- an object is registered

pub registering_given : (manner : Manner) (to : List ℕ) → node_makes (registering manner to) ≡ false
registering_given manners.Resource to = refl
registering_given manners.Aware to = refl
registering_given manners.Double to = refl

module _ (manner : Manner) (transaction : ObjectKey) (name : List ℕ) where
  if_keeps : (b : Bool) (key : ObjectKey) (end : List ℕ) → Keeps (registered_if b manner key end transaction name)
  if_keeps true key end w =
      calls_same w.messages (with_end (place_of key) (with_fresh key) w).messages (end_messages (place_of key) (with_fresh key) w)
  if_keeps false key end w = calls_stay w.messages

  object_keeps : (key : ObjectKey) (end : List ℕ) → Keeps (registers_object manner key end transaction name)
  object_keeps key end =
      made_keeps transaction (registering manner (reference end key)) (registered manner key end transaction name)
      (registering_given manner (reference end key)) (λ answer. if_keeps (is_registered manner answer) key end)

  at_keeps : (place : ℕ) (s : Seat) (o : Option FlatEnd) (w : World) → KeepsCalls w.messages (registers_at manner transaction place s o name w).world.messages
  at_keeps place s (Some e) w =
      let v : World = with_end place drawn_once w in
      let key : ObjectKey = resource_key manner place (e.drawn + 1) in
      calls_then w.messages v.messages (registers_object manner key s.name transaction name v).world.messages
      (calls_same w.messages v.messages (end_messages place drawn_once w)) (object_keeps key s.name v)
  at_keeps place s None w = calls_stay w.messages

  pub registers_keep : (place : ℕ) → Keeps (registers manner transaction place name)
  unfolding registers
  registers_keep place w = by_seat (slice_get w.seats place)
    where
      by_seat : (o : Option Seat)
          → KeepsCalls w.messages (elim o as (λ _. Done) [
            | Some s ↦ registers_at manner transaction place s (end_in s.server) name w
            | None ↦ nothing w
          ]).world.messages
      by_seat (Some s) = at_keeps place s (end_in s.server) w
      by_seat None = calls_stay w.messages

-- ---- a top-level transaction is made

begun_keeps : (place : ℕ) (name node : List ℕ) (later : Node) (a : Result ObjectKey NodeFault) → Keeps (begun_with place name node later a)
begun_keeps place name node later (Ok key) w =
    calls_same w.messages (with_server place (OfNode (Some later)) w).messages (seat_messages place (λ (s : Seat). record s { server = OfNode (Some later) }) w)
begun_keeps place name node later (Err fault) w = calls_stay w.messages

begins_keeps : (place : ℕ) (name : List ℕ) (seconds : ℕ) (s : Seat) (o : Option Node) → Keeps (begins_at place name seconds s o)
begins_keeps place name seconds s (Some n) w =
    let c : Created = creates s.clock seconds n in
    begun_keeps place name s.name c.node c.answer w
begins_keeps place name seconds s None w = calls_stay w.messages

pub begins_keep : (place : ℕ) (name : List ℕ) (seconds : ℕ) → Keeps (begins place name seconds)
unfolding begins
begins_keep place name seconds w = by_seat (slice_get w.seats place)
  where
    by_seat : (o : Option Seat)
        → KeepsCalls w.messages (elim o as (λ _. Done) [ Some s ↦ begins_at place name seconds s (node_in s.server) w | None ↦ nothing w ]).world.messages
    by_seat (Some s) = begins_keeps place name seconds s (node_in s.server) w
    by_seat None = calls_stay w.messages
