-- A node that is up is one that was, or what one became by one thing that came to it.
use Rattle.std.proofs.Common.{◌≡◌, ◌⊎◌, inl, inr, ℕ, ◌+◌, ◌-◌, Bool, true, false, List, map, slice_get, Option, Some, None, refl, sym, ap, subst, ◌∙◌, arith}
use Rattle.std.specs.Prelude.{Result, Ok, Err}
use Rattle.std.specs.Option.{option_and_then}
use Rattle.ior_refs.specs.declared.key.ObjectKey.{ObjectKey}
use Rattle.ots_model.specs.declared.completion.CallNumber.{CallNumber}
use Rattle.ots_model.specs.declared.completion.Stood.{Stood}
use Rattle.ots_model.specs.declared.line.ResourceState.{ResourceState}
use Rattle.ots_model.specs.declared.tree.Heard.{Heard}
use Rattle.ots_model.specs.declared.tree.Outward.{Outward}
use Rattle.ots_model.specs.declared.tree.Word.{Word}
use Rattle.ots_outside.specs.Disk.{at_first}
use Rattle.decision_journal.specs.Loading.{loaded}
use Rattle.decision_journal.specs.declared.record.JournalRecord.{JournalRecord}
use Rattle.resource_end.specs.declared.state.State.{State}
use Rattle.resource_end.specs.declared.state.Word.{Word as EndWord}
use Rattle.coordinator.specs.Node.{Node, load}
use Rattle.coordinator.specs.NodeCalls.{Applied, applies, call_wants}
use Rattle.coordinator.specs.NodeSlots.{creates}
use Rattle.coordinator.specs.NodeTick.{Ticked, ticks}
use Rattle.coordinator.specs.declared.event.Act.{Act}
use Rattle.coordinator.specs.declared.event.Act.TheVariants as acts
use Rattle.coordinator.specs.declared.event.Event.{Event}
use Rattle.coordinator.specs.declared.node.NodeFault.{NodeFault}
use Rattle.coordinator.specs.declared.said.Said.{Said}
use Rattle.coordinator.specs.declared.said.Said.TheVariants as said
use Rattle.coordinator.specs.declared.said.StepAnswer.{StepAnswer}
use Rattle.nodes_world.specs.declared.deed.Manner.{Manner}
use Rattle.nodes_world.specs.declared.deed.Manner.TheVariants as manners
use Rattle.nodes_world.specs.declared.message.Content.TheVariants as contents
use Rattle.nodes_world.specs.Agreement.{IsWord}
use Rattle.nodes_world.specs.AgreementInside.{Known}
use Rattle.nodes_world.specs.AgreementSteps.{Goes, by_alike, by_begin, by_call, by_calling, by_crash, by_end, by_hearing, by_load, by_node, by_receipt, by_register, by_sub, by_tick, by_touch, by_word, is_asked, kept_seat}
use Rattle.nodes_world.specs.Clients.{acts_at, answered_with, begins_at, begun_with, call_event, calls, created, creates_sub, is_registered, registered, registered_if, registering, registers_at, then_answers}
use Rattle.nodes_world.specs.Deliveries.{answer_event}
use Rattle.nodes_world.specs.Ends.{answers, drawn_once, moves, obeys, obeys_as, obeys_word, state_lines, told_word, with_end, with_fresh, with_resource_at}
use Rattle.nodes_world.specs.Happenings.{Done, client_message, nothing, replies, requests_all}
use Rattle.nodes_world.specs.Journals.{Asked, Answers, Stops, asks}
use Rattle.nodes_world.specs.Lives.{loads, makes_end, new_end, new_seat, with_named_seat}
use Rattle.nodes_world.specs.Nodes.{Stepping, crashes, crashes_seat, happens_all, no_step, steps, steps_by, steps_node, ticks_node}
use Rattle.nodes_world.specs.Objects.{family_key, place_of, reference, resource_key, service_at}
use Rattle.nodes_world.specs.Told.{Told}
use Rattle.nodes_world.specs.World.{World, Seat, FlatEnd, FlatResource, NamedKey, OfNode, OfEnd, Server, end_at, next_message, node_at, node_in, on_seat, referred, resource_at, with_message, with_new_seat, with_seat, with_sent, with_server}
use Rattle.nodes_world.proofs.Deeds.{NodeIsUp, node_is_up}
use Rattle.nodes_world.proofs.Going.{node_up, on_seat_there, on_seat_twice}
use Rattle.nodes_world.proofs.KnownAlike.{map_get}
use Rattle.nodes_world.proofs.KnownFrames.{push_cases}
use Rattle.nodes_world.proofs.KnownSeats.{set_at}
use Rattle.nodes_world.proofs.KnownWorlds.{node_there}
use Rattle.nodes_world.proofs.MessagesGo.{HasContent}
use Rattle.nodes_world.proofs.SeatSwaps.{happens_seats, requests_seats}

-- it is no answer to a word
abbrev pub IsNoAnswer : Act → Type 0
IsNoAnswer act = (number : CallNumber) (heard : Heard) → act ≡ acts.Answer number heard → ⊥

-- what comes to a node at a place, and what that makes of it: it is loaded, a family is made, a client's call comes, an answer to a word
-- of this node, or time passes
pub data Becomes (w : World) (place : ℕ) : Node → Type 0 where
  loaded_so : (service : ℕ) (rs : List JournalRecord) → Becomes w place (load service rs)
  made : (now seconds : ℕ) (n : Node) → node_at w place ≡ Some n → Becomes w place (creates now seconds n).node
  called : (k : ObjectKey) (e : Event) (stood : Option Stood) (n : Node) → node_at w place ≡ Some n → IsNoAnswer e.act
      → Becomes w place (applies k e stood n).node
  heard_so : (nth reply now : ℕ) (o : Outward) (answer : Said) (stood : Option Stood) (n : Node) → node_at w place ≡ Some n → IsWord w nth place o
      → HasContent w reply (contents.Reply (nth + 1) answer) → Becomes w place (applies (family_key place o.number) (answer_event o answer now) stood n).node
  ticked : (now : ℕ) (n : Node) → node_at w place ≡ Some n → Becomes w place (ticks now n).node

abbrev pub NodesGo : World → World → Type 0
NodesGo w v = (place : ℕ) (m : Node) → node_at v place ≡ Some m → (node_at w place ≡ Some m) ⊎ Becomes w place m

-- no node becomes another one
abbrev pub NodesStay : World → World → Type 0
NodesStay w v = (place : ℕ) (m : Node) → node_at v place ≡ Some m → node_at w place ≡ Some m

pub stay_self : (w : World) → NodesStay w w
stay_self w place m is = is

pub stay_then : (a b c : World) → NodesStay a b → NodesStay b c → NodesStay a c
stay_then a b c first later place m is = first place m (later place m is)

stays_go : (w v : World) → NodesStay w v → NodesGo w v
stays_go w v stay place m is = inl (stay place m is)

go_then_stay : (a b c : World) → NodesGo a b → NodesStay b c → NodesGo a c
go_then_stay a b c go stay place m is = go place m (stay place m is)

-- ---- seats

pub seats_stay : (w v : World) → v.seats ≡ w.seats → NodesStay w v
unfolding node_at
seats_stay w v same place m is = ap (λ (ss : List Seat). option_and_then (λ (s : Seat). node_in s.server) (slice_get ss place)) (sym same) ∙ is

seat_cases : (w : World) (place : ℕ) (s later : Seat) → slice_get w.seats place ≡ Some s → (p : ℕ) (m : Node) → node_at (with_seat place later w) p ≡ Some m
    → ((p ≡ place) × (node_in later.server ≡ Some m)) ⊎ (node_at w p ≡ Some m)
unfolding node_at
seat_cases w place s later there p m is = elim (set_at w.seats place s later p there) [
  | inl here ↦ inl (here.0, sym (ap (λ (o : Option Seat). option_and_then (λ (x : Seat). node_in x.server) o) here.1) ∙ is)
  | inr other ↦ inr (sym (ap (λ (o : Option Seat). option_and_then (λ (x : Seat). node_in x.server) o) other) ∙ is)
]

none_up : (m : Node) → None ≡ Some m → ⊥
none_up m e = cc

inner : {A : Type 0} {x y : A} → Some x ≡ Some y → x ≡ y
inner e = cc

-- nothing is up there then
down_stays : (w : World) (place : ℕ) (s later : Seat) → slice_get w.seats place ≡ Some s → node_in later.server ≡ None → NodesStay w (with_seat place later w)
down_stays w place s later there none p m is = elim (seat_cases w place s later there p m is) [
  | inl here ↦ absurd (none_up m (sym none ∙ here.1))
  | inr other ↦ other
]

pub end_stays : (place : ℕ) (change : FlatEnd → FlatEnd) (w : World) → NodesStay w (with_end place change w)
end_stays place change w = by_end (end_at w place)
  where
    at_seat : (server : Server) → node_in server ≡ None → (o : Option Seat) → slice_get w.seats place ≡ o
        → NodesStay w (elim o as (λ _. World) [ Some s ↦ with_seat place (record s { server = server }) w | None ↦ w ])
    at_seat server none (Some s) there = down_stays w place s (record s { server = server }) there none
    at_seat server none None there = stay_self w

    by_end : (o : Option FlatEnd) → NodesStay w (elim o as (λ _. World) [ Some e ↦ with_server place (OfEnd (Some (change e))) w | None ↦ w ])
    by_end (Some e) = at_seat (OfEnd (Some (change e))) refl (slice_get w.seats place) refl
    by_end None = stay_self w

resource_stays : (key : ObjectKey) (r : FlatResource) (w : World) → NodesStay w (with_resource_at key r w)
unfolding with_resource_at
resource_stays key r w = end_stays (place_of key) _ w

new_stays : (s : Seat) (w : World) → node_in s.server ≡ None → NodesStay w (with_new_seat s w)
new_stays s w none place m is =
    let at : NodeIsUp (with_new_seat s w) place m = node_is_up (with_new_seat s w) place m is in
    elim (push_cases w.seats place s at.seat at.there) [
      | inl old ↦ node_there w place at.seat m old at.up
      | inr new ↦ absurd (none_up m (sym none ∙ ap (λ (x : Seat). node_in x.server) (sym new.1) ∙ ap node_in at.up))
    ]

-- ---- a call to a node

module _ (w u : World) (stay : NodesStay w u) (place : ℕ) (k : ObjectKey) (e : Event)
    (turns : (n : Node) (stood : Option Stood) → node_at w place ≡ Some n → Becomes w place (applies k e stood n).node) where
  asked_go : (s : Seat) (n : Node) → slice_get u.seats place ≡ Some s → s.server ≡ OfNode (Some n) → (a : Asked) → NodesGo w (steps_by a place k e n u).done.world
  unfolding crashes
  asked_go s n there up (Answers stood disk stop) p m is =
      let a : Applied = applies k e stood n in
      let first : Seat → Seat = λ x. record x { disk = disk; stop = stop } in
      let second : Seat → Seat = λ x. record x { server = OfNode (Some a.node) } in
      let put : World = on_seat place second (on_seat place first u) in
      let here : node_at (with_seat place (second (first s)) u) p ≡ Some m =
      subst (λ (x : World). node_at x p ≡ Some m) (on_seat_twice place first second u s there)
      (seats_stay put (requests_all place a.words put).world (requests_seats place a.words put) p m is) in
      elim (seat_cases u place s (second (first s)) there p m here) [
        | inl own ↦ inr (subst (λ (i : ℕ). Becomes w i m) (sym own.0) (subst (Becomes w place) (inner own.1) (turns n stood (stay place n (node_there u place s n there up)))))
        | inr other ↦ inl (stay p m other)
      ]
  asked_go s n there up (Stops image) p m is =
      let first : Seat → Seat = λ x. record x { disk = at_first image; stop = None } in
      let second : Seat → Seat = λ x. record x { server = OfNode None } in
      let down = ap (λ (o : Option Seat). (elim o as (λ _. Done) [ Some x ↦ crashes_seat place image x u | None ↦ nothing u ]).world) there
      ∙ on_seat_twice place first second u s there in
      inl (stay p m (down_stays u place s (second (first s)) there refl p m (subst (λ (x : World). node_at x p ≡ Some m) down is)))

  steps_go : NodesGo w (steps place k e u).done.world
  unfolding steps
  steps_go = by (slice_get u.seats place) refl
    where
      at_node : (s : Seat) → slice_get u.seats place ≡ Some s → (up : Option Node) → node_in s.server ≡ up → NodesGo w (steps_node up s place k e u).done.world
      at_node s there None up = stays_go w u stay
      at_node s there (Some n) up = asked_go s n there (node_up s.server n up) (asks (call_wants k e n) n.service n.found s.disk s.stop)

      by : (o : Option Seat) → slice_get u.seats place ≡ o
          → NodesGo w (elim o as (λ _. Stepping) [ Some s ↦ steps_node (node_in s.server) s place k e u | None ↦ no_step u ]).done.world
      by (Some s) there = at_node s there (node_in s.server) refl
      by None there = stays_go w u stay

-- a client's call, and what comes of its answer
module _ (w : World) (to : ObjectKey) (act : Act) (no : IsNoAnswer act) (behind : Said → World → Done)
    (behind_stays : (answer : Said) (v : World) → NodesStay v (behind answer v).world) where
  answered_stays : (message : ℕ) (answer : Option (Result StepAnswer NodeFault)) (v : World) → NodesStay v (answered_with message behind answer v).world
  answered_stays message (Some answer) v = behind_stays _ v
  answered_stays message None v = stay_self v

  acts_go : (u : World) → NodesStay w u → (message : ℕ) → NodesGo w (acts_at message to act behind u).world
  unfolding acts_at
  acts_go u stay message = by (slice_get u.seats (place_of to))
    where
      by : (o : Option Seat) → NodesGo w (elim o as (λ _. Done) [
        | Some s ↦ then_answers message behind (steps (place_of to) to (call_event message to act s.clock) u)
        | None ↦ nothing u
      ]).world
      by (Some s) =
          let step = steps (place_of to) to (call_event message to act s.clock) u in
          go_then_stay w step.done.world (answered_with message behind step.answer step.done.world).world
          (steps_go w u stay (place_of to) to (call_event message to act s.clock) (λ n stood up. called to (call_event message to act s.clock) stood n up no))
          (answered_stays message step.answer step.done.world)
      by None = stays_go w u stay

  calls_go : (u : World) → NodesStay w u → NodesGo w (calls to act behind u).world
  unfolding calls
  calls_go u stay =
      let sent = with_sent (client_message (contents.Call to act)) u in
      acts_go sent (stay_then w u sent stay (seats_stay u sent refl)) (next_message u)

-- ---- a word that is obeyed

shown_stays : (name : List ℕ) (s : Option ResourceState) (w : World) → NodesStay w (state_lines name s w).world
shown_stays name (Some s) w = stay_self w
shown_stays name None w = stay_self w

moves_stay : (x : NamedKey) (r : FlatResource) (next : Option State) (w : World) → NodesStay w (moves x r next w).world
moves_stay x r (Some s) w = stay_then w _ _ (resource_stays x.key _ w) (shown_stays x.name _ _)
moves_stay x r None w = stay_self w

reply_stays : (request : ℕ) (answer : Said) (w : World) → NodesStay w (replies request answer w).world
unfolding replies
reply_stays request answer w = seats_stay w _ refl

answers_stay : (request : ℕ) (answer : Option Said) (w : World) → NodesStay w (answers request answer w).world
answers_stay request (Some answer) w = reply_stays request answer w
answers_stay request None w = stay_self w

word_stays : (word : Option EndWord) (request : ℕ) (x : NamedKey) (r : FlatResource) (w : World) → NodesStay w (obeys_word word request x r w).world
word_stays (Some word) request x r w = stay_then w _ _ (moves_stay x r _ w) (answers_stay request _ _)
word_stays None request x r w = reply_stays request _ w

object_stays : (found : Option FlatResource) (request : ℕ) (x : NamedKey) (word : Word) (w : World) → NodesStay w (obeys_as found request x word w).world
object_stays (Some r) request x word w = word_stays (told_word word) request x r w
object_stays None request x word w = reply_stays request _ w

obeys_stay : (request : ℕ) (o : Outward) (w : World) → NodesStay w (obeys request o w).world
unfolding obeys
obeys_stay request o w = by (referred w o.to)
  where
    by : (found : Option NamedKey)
        → NodesStay w (elim found as (λ _. Done) [ Some x ↦ obeys_as (resource_at w x.key) request x o.word w | None ↦ nothing w ]).world
    by (Some x) = object_stays (resource_at w x.key) request x o.word w
    by None = stay_self w

-- ---- what is made, and what ends make

created_stays : (parent : ObjectKey) (name : List ℕ) (answer : Said) (v : World) → NodesStay v (created parent name answer v).world
created_stays parent name (said.Made branch) v = seats_stay v _ refl
created_stays parent name _ v = stay_self v

sub_go : (w : World) (parent : ObjectKey) (name : List ℕ) → NodesGo w (creates_sub parent name w).world
unfolding creates_sub
sub_go w parent name = calls_go w parent acts.CreateSubtransaction (λ number heard same. no same) (created parent name) (created_stays parent name) w (stay_self w)
  where
    no : {number : CallNumber} {heard : Heard} → acts.CreateSubtransaction ≡ acts.Answer number heard → ⊥
    no same = cc

registering_no : (manner : Manner) (octets : List ℕ) → IsNoAnswer (registering manner octets)
registering_no manners.Resource octets number heard same = cc
registering_no manners.Aware octets number heard same = cc
registering_no manners.Double octets number heard same = cc

registered_stays : (manner : Manner) (key : ObjectKey) (end : List ℕ) (transaction : ObjectKey) (name : List ℕ) (answer : Said) (v : World)
    → NodesStay v (registered manner key end transaction name answer v).world
registered_stays manner key end transaction name answer v = by (is_registered manner answer)
  where
    by : (is : Bool) → NodesStay v (registered_if is manner key end transaction name v).world
    by true =
        let changed = with_end (place_of key) (with_fresh key) v in
        stay_then v changed _ (end_stays (place_of key) (with_fresh key) v) (seats_stay changed _ refl)
    by false = stay_self v

register_go : (w : World) (manner : Manner) (transaction : ObjectKey) (place : ℕ) (name : List ℕ) (s : Seat) (e : FlatEnd)
    → NodesGo w (registers_at manner transaction place s (Some e) name w).world
register_go w manner transaction place name s e =
    let key = resource_key manner place (e.drawn + 1) in
    calls_go w transaction (registering manner (reference s.name key)) (registering_no manner (reference s.name key))
    (registered manner key s.name transaction name) (registered_stays manner key s.name transaction name) (with_end place drawn_once w) (end_stays place drawn_once w)

begun_go : (w : World) (place : ℕ) (name : List ℕ) (seconds : ℕ) (s : Seat) (n : Node) → slice_get w.seats place ≡ Some s → s.server ≡ OfNode (Some n)
    → NodesGo w (begins_at place name seconds s (Some n) w).world
begun_go w place name seconds s n there up = by (creates s.clock seconds n).answer
  where
    later : Seat
    later = record s { server = OfNode (Some (creates s.clock seconds n).node) }

    by : (answer : Result ObjectKey NodeFault) → NodesGo w (begun_with place name s.name (creates s.clock seconds n).node answer w).world
    by (Ok key) p m is =
        let put = with_server place (OfNode (Some (creates s.clock seconds n).node)) w in
        let here : node_at (with_seat place later w) p ≡ Some m =
        subst (λ (x : World). node_at x p ≡ Some m) (on_seat_there place (λ (x : Seat). record x { server = OfNode (Some (creates s.clock seconds n).node) }) w s there)
        (seats_stay put _ refl p m is) in
        elim (seat_cases w place s later there p m here) [
          | inl own ↦ inr (subst (λ (i : ℕ). Becomes w i m) (sym own.0) (subst (Becomes w place) (inner own.1) (made s.clock seconds n (node_there w place s n there up))))
          | inr other ↦ inl other
        ]
    by (Err fault) p m is = inl is

ticks_go : (w : World) (place : ℕ) (s : Seat) (n : Node) → slice_get w.seats place ≡ Some s → s.server ≡ OfNode (Some n) → NodesGo w (ticks_node place s.clock n w).world
unfolding ticks_node
ticks_go w place s n there up p m is =
    let t : Ticked = ticks s.clock n in
    let later : Seat = record s { server = OfNode (Some t.node) } in
    let put : World = with_server place (OfNode (Some t.node)) w in
    let told = (happens_all place t.node t.happened put).world in
    let before : node_at put p ≡ Some m =
    seats_stay put told (happens_seats place t.node t.happened put) p m (seats_stay told (requests_all place t.words told).world (requests_seats place t.words told) p m is) in
    let here : node_at (with_seat place later w) p ≡ Some m =
    subst (λ (x : World). node_at x p ≡ Some m) (on_seat_there place (λ (x : Seat). record x { server = OfNode (Some t.node) }) w s there) before in
    elim (seat_cases w place s later there p m here) [
      | inl own ↦ inr (subst (λ (i : ℕ). Becomes w i m) (sym own.0) (subst (Becomes w place) (inner own.1) (ticked s.clock n (node_there w place s n there up))))
      | inr other ↦ inl other
    ]

load_go : (w : World) (place : ℕ) (s : Seat) (rs : List JournalRecord) → slice_get w.seats place ≡ Some s → NodesGo w (loads place s (Some rs) w).world
load_go w place s rs there p m is =
    let first : Seat → Seat = λ x. record x { disk = loaded (service_at place) rs s.disk; stop = None } in
    let second : Seat → Seat = λ x. record x { server = OfNode (Some (load (service_at place) rs)) } in
    let here : node_at (with_seat place (second (first s)) w) p ≡ Some m =
    subst (λ (x : World). node_at x p ≡ Some m) (on_seat_twice place first second w s there) is in
    elim (seat_cases w place s (second (first s)) there p m here) [
      | inl own ↦ inr (subst (Becomes w p) (inner own.1) (loaded_so (service_at place) rs))
      | inr other ↦ inl other
    ]

crash_go : (w : World) (place : ℕ) (s : Seat) → slice_get w.seats place ≡ Some s → NodesGo w (crashes_seat place s.disk.reads s w).world
crash_go w place s there p m is =
    let first : Seat → Seat = λ x. record x { disk = at_first s.disk.reads; stop = None } in
    let second : Seat → Seat = λ x. record x { server = OfNode None } in
    inl (down_stays w place s (second (first s)) there refl p m (subst (λ (x : World). node_at x p ≡ Some m) (on_seat_twice place first second w s there) is))

named_seat_stays : (name : List ℕ) (server : Server) (w : World) → node_in server ≡ None → NodesStay w (with_named_seat name server w)
named_seat_stays name server w none =
    let seated = with_new_seat (new_seat name server) w in
    stay_then w seated (with_named_seat name server w) (new_stays (new_seat name server) w none) (seats_stay seated _ refl)

made_end_stays : (name : List ℕ) (w : World) → NodesStay w (makes_end name w).world
unfolding makes_end
made_end_stays name w = named_seat_stays name (OfEnd (Some new_end)) w refl

alike_go : (w v : World) → map kept_seat v.seats ≡ map kept_seat w.seats → NodesGo w v
alike_go w v same place m is =
    let at : NodeIsUp v place m = node_is_up v place m is in
    let was = map_get kept_seat v.seats w.seats place at.seat same at.there in
    inl (node_there w place was.0 m was.1 (ap (λ (s : Seat). s.server) was.2 ∙ at.up))

-- ---- each step

asked_no : (act : Act) → is_asked act ≡ true → IsNoAnswer act
asked_no act is number heard same = never number heard (sym (ap is_asked same) ∙ is)
  where
    never : (number : CallNumber) (heard : Heard) → is_asked (acts.Answer number heard) ≡ true → ⊥
    never number heard e = absurd cc

pub nodes_go : (w : World) (told : List Told) → Known w told → (d : Done) → Goes w d → NodesGo w d.world
nodes_go w told k d (by_alike v quiet alike all) = alike_go w v alike.seats
nodes_go w told k d (by_receipt number) = stays_go w w (stay_self w)
nodes_go w told k d (by_node name free room) = stays_go w _ (named_seat_stays name (OfNode None) w refl)
nodes_go w told k d (by_end name free room short) = stays_go w _ (made_end_stays name w)
nodes_go w told k d (by_load place s rs there down held lacks) = load_go w place s rs there
nodes_go w told k d (by_crash place s n there up) = crash_go w place s there
nodes_go w told k d (by_begin place name seconds s n there up free) = begun_go w place name seconds s n there up
nodes_go w told k d (by_calling to act asked few) = stays_go w _ (seats_stay w _ refl)
nodes_go w told k d (by_call nth now to act m there is asked) =
    steps_go w w (stay_self w) (place_of to) to (call_event (nth + 1) to act now)
    (λ n stood up. called to (call_event (nth + 1) to act now) stood n up (asked_no act asked))
nodes_go w told k d (by_sub parent name free few) = sub_go w parent name
nodes_go w told k d (by_register manner transaction place name s e there up free may few) = register_go w manner transaction place name s e
nodes_go w told k d (by_touch name key r later named there touched) = stays_go w _ (resource_stays key later w)
nodes_go w told k d (by_word nth place o is) = stays_go w _ (obeys_stay (nth + 1) o w)
nodes_go w told k d (by_hearing request from reply o m back answer s there is replied says seated waits) =
    let u = with_message (request - 1) (record m { answered = true }) w in
    let asked = k.words.asked reply request back answer replied says in
    let number = asked.4 in
    let same : request ≡ (request - 1) + 1 = omega (arith, number) in
    steps_go w u (seats_stay w u refl) from (family_key from o.number) (answer_event o answer s.clock)
    (λ n stood up. heard_so (request - 1) reply s.clock o answer stood n up (m, there, is) (back, replied, says ∙ ap (λ (i : ℕ). contents.Reply i answer) same))
nodes_go w told k d (by_tick place s n there up) = ticks_go w place s n there up
