-- Steps that ask no journal leave each seat its name and what its disk reads, and each name what it names.
use Rattle.std.proofs.Common.{◌≡◌, ◌⊎◌, inl, inr, ℕ, Bool, true, false, is_some, if◌then◌else◌, List, [], ◌∷◌, slice_get, Option, Some, None, refl, sym, ap, subst, ◌∙◌}
use Rattle.std.specs.Prelude.{Result}
use Rattle.ior_refs.specs.declared.key.ObjectKey.{ObjectKey}
use Rattle.ots_model.specs.declared.line.ResourceState.{ResourceState}
use Rattle.ots_model.specs.declared.tree.Outward.{Outward}
use Rattle.ots_model.specs.declared.tree.Word.{Word}
use Rattle.resource_end.specs.declared.state.State.{State}
use Rattle.resource_end.specs.declared.state.Word.{Word as EndWord}
use Rattle.coordinator.specs.Family.{Family}
use Rattle.coordinator.specs.History.{kept_for}
use Rattle.coordinator.specs.Node.{Node}
use Rattle.coordinator.specs.NodeCalls.{Applied, applies, retold_answer}
use Rattle.coordinator.specs.NodeTick.{Happening, Ticked, ticks}
use Rattle.coordinator.specs.Step.{Wanted, wanted, wanted_act}
use Rattle.coordinator.specs.declared.event.Act.{Act}
use Rattle.coordinator.specs.declared.event.Act.TheVariants as acts
use Rattle.coordinator.specs.declared.event.Event.{Event}
use Rattle.coordinator.specs.declared.node.NodeFault.{NodeFault}
use Rattle.coordinator.specs.declared.said.Said.{Said}
use Rattle.coordinator.specs.declared.said.StepAnswer.{StepAnswer}
use Rattle.nodes_world.specs.declared.message.Content.TheVariants as contents
use Rattle.nodes_world.specs.declared.message.Message.{Message}
use Rattle.nodes_world.specs.declared.thing.Thing.{Thing}
use Rattle.nodes_world.specs.AgreementSteps.{is_asked}
use Rattle.nodes_world.specs.Clients.{acts_at, answered_with, call_event, calls, said_in, then_answers}
use Rattle.nodes_world.specs.Ends.{answers, moves, obeys, obeys_as, obeys_word, state_lines, told_word, with_end, with_resource_at}
use Rattle.nodes_world.specs.Happenings.{Done, client_message, nothing, requests, requests_all, replies}
use Rattle.nodes_world.specs.Journals.{Asked}
use Rattle.nodes_world.specs.Nodes.{Stepping, happens, happens_all, no_step, steps, steps_by, steps_node, ticks_node}
use Rattle.nodes_world.specs.Objects.{place_of}
use Rattle.nodes_world.specs.World.{World, Seat, Server, OfNode, OfEnd, FlatEnd, FlatResource, NamedKey, end_at, node_in, on_seat, referred, resource_at, thing, with_name, with_new_seat, with_seat, with_sent, with_server}
use Rattle.nodes_world.proofs.CallKnown.{answers_nothing}
use Rattle.nodes_world.proofs.KnownMakings.{push_at, thing_kept}
use Rattle.nodes_world.proofs.KnownSeats.{set_at}

-- a seat is there, has its name, and its disk reads what it read
pub record IsSameAt (v : World) (place : ℕ) (s : Seat) : Type 0 where
  pub seat : Seat
  pub there : slice_get v.seats place ≡ Some seat
  pub name : seat.name ≡ s.name
  pub reads : seat.disk.reads ≡ s.disk.reads

pub record DisksSame (w v : World) : Type 0 where
  pub names : (name : List ℕ) (x : Thing) → thing w name ≡ Some x → thing v name ≡ Some x
  pub seats : (place : ℕ) (s : Seat) → slice_get w.seats place ≡ Some s → IsSameAt v place s
  -- a seat was there, or its disk is new
  pub back : (place : ℕ) (t : Seat) → slice_get v.seats place ≡ Some t → ((s : Seat) × (slice_get w.seats place ≡ Some s)) ⊎ (t.disk.reads ≡ [])

inner : {A : Type 0} {x y : A} → Some x ≡ Some y → x ≡ y
inner e = cc

pub same_self : (w : World) → DisksSame w w
same_self w = record {
  names = λ name x is. is;
  seats = λ place s there. record { seat = s; there = there; name = refl; reads = refl };
  back = λ place t there. inl (t, there);
}

pub same_then : (a b c : World) → DisksSame a b → DisksSame b c → DisksSame a c
same_then a b c first later = record {
  names = λ name x is. later.names name x (first.names name x is);
  seats = λ place s there.
      let one = first.seats place s there in
      let two = later.seats place one.seat one.there in
      record { seat = two.seat; there = two.there; name = two.name ∙ one.name; reads = two.reads ∙ one.reads };
  back = λ place t there. elim (later.back place t there) [
    | inl (s, at) ↦ elim (first.back place s at) [
      | inl was ↦ inl was
      | inr new ↦ let two = later.seats place s at in inr (ap (λ (y : Seat). y.disk.reads) (inner (sym there ∙ two.there)) ∙ two.reads ∙ new)
    ]
    | inr new ↦ inr new
  ];
}

-- ---- the changes of which all are made

pub seat_same : (place : ℕ) (s later : Seat) (w : World) → slice_get w.seats place ≡ Some s → later.name ≡ s.name → later.disk.reads ≡ s.disk.reads
    → DisksSame w (with_seat place later w)
seat_same place s later w there name reads = record {
  names = λ other x is. is;
  seats = λ p t at. elim (set_at w.seats place s later p there) [
    | inl here ↦
        let is : s ≡ t = inner (sym there ∙ ap (slice_get w.seats) (sym here.0) ∙ at) in
        record { seat = later; there = here.1; name = name ∙ ap (λ (y : Seat). y.name) is; reads = reads ∙ ap (λ (y : Seat). y.disk.reads) is }
    | inr other ↦ record { seat = t; there = other ∙ at; name = refl; reads = refl }
  ];
  back = λ p t at. elim (set_at w.seats place s later p there) [
    | inl here ↦ inl (s, ap (slice_get w.seats) here.0 ∙ there)
    | inr other ↦ inl (t, sym other ∙ at)
  ];
}

pub on_seat_same : (place : ℕ) (change : Seat → Seat) (w : World)
    → ((s : Seat) → slice_get w.seats place ≡ Some s → ((change s).name ≡ s.name) × ((change s).disk.reads ≡ s.disk.reads))
    → DisksSame w (on_seat place change w)
on_seat_same place change w so = by (slice_get w.seats place) refl
  where
    by : (o : Option Seat) → slice_get w.seats place ≡ o
        → DisksSame w (elim o as (λ _. World) [ Some s ↦ with_seat place (change s) w | None ↦ w ])
    by (Some s) there = let same = so s there in seat_same place s (change s) w there same.0 same.1
    by None there = same_self w

pub server_same : (place : ℕ) (server : Server) (w : World) → DisksSame w (with_server place server w)
server_same place server w = on_seat_same place (λ (s : Seat). record s { server = server }) w (λ s there. (refl, refl))

pub end_same : (place : ℕ) (change : FlatEnd → FlatEnd) (w : World) → DisksSame w (with_end place change w)
end_same place change w = by (end_at w place)
  where
    by : (o : Option FlatEnd) → DisksSame w (elim o as (λ _. World) [ Some e ↦ with_server place (OfEnd (Some (change e))) w | None ↦ w ])
    by (Some e) = server_same place (OfEnd (Some (change e))) w
    by None = same_self w

pub resource_same : (key : ObjectKey) (r : FlatResource) (w : World) → DisksSame w (with_resource_at key r w)
unfolding with_resource_at
resource_same key r w = end_same (place_of key) _ w

-- messages are no seats
pub sent_same : (m : Message) (w : World) → DisksSame w (with_sent m w)
sent_same m w = record {
  names = λ name x is. is;
  seats = λ place s there. record { seat = s; there = there; name = refl; reads = refl };
  back = λ place t there. inl (t, there);
}

pub name_same : (name : List ℕ) (x : Thing) (w : World) → DisksSame w (with_name name x w)
name_same name x w = record {
  names = λ other y is. thing_kept w.names ((name, x) ∷ []) other y is;
  seats = λ place s there. record { seat = s; there = there; name = refl; reads = refl };
  back = λ place t there. inl (t, there);
}

pub new_seat_same : (s : Seat) (w : World) → s.disk.reads ≡ [] → DisksSame w (with_new_seat s w)
new_seat_same s w empty = record {
  names = λ name x is. is;
  seats = λ place t there. elim (push_at w.seats s place) [
    | inl here ↦ absurd (no (sym here.1 ∙ there))
    | inr other ↦ record { seat = t; there = other ∙ there; name = refl; reads = refl }
  ];
  back = λ place t there. elim (push_at w.seats s place) [
    | inl here ↦ inr (ap (λ (y : Seat). y.disk.reads) (inner (sym there ∙ here.2)) ∙ empty)
    | inr other ↦ inl (t, sym other ∙ there)
  ];
}
  where
    no : {A : Type 0} {x : A} → None ≡ Some x → ⊥
    no e = cc

-- ---- words and replies

pub requests_same : (place : ℕ) (o : Outward) (w : World) → DisksSame w (requests place o w).world
unfolding requests
requests_same place o w = sent_same _ w

pub requests_all_same : (place : ℕ) (some : List Outward) (w : World) → DisksSame w (requests_all place some w).world
requests_all_same place [] w = same_self w
requests_all_same place (o ∷ others) w =
    same_then w (requests place o w).world (requests_all place others (requests place o w).world).world (requests_same place o w)
    (requests_all_same place others (requests place o w).world)

pub replies_same : (request : ℕ) (answer : Said) (w : World) → DisksSame w (replies request answer w).world
unfolding replies
replies_same request answer w = sent_same _ w

-- ---- a call that asks no journal

pub record IsQuietEvent (e : Event) : Type 0 where
  pub retold : retold_answer e.act ≡ None
  pub none : (f : Family) → wanted f e ≡ None

either_none : (b : Bool) (o : Option Wanted) → o ≡ None → (if b then None else o) ≡ None
either_none true o none = refl
either_none false o none = none

pub quiet_by : (e : Event) → retold_answer e.act ≡ None → ((f : Family) → wanted_act e.act f ≡ None) → IsQuietEvent e
unfolding wanted
quiet_by e retold none = record { retold = retold; none = λ f. either_none (is_some (kept_for f.entries e.key)) (wanted_act e.act f) (none f) }

asked_retold : (act : Act) → is_asked act ≡ true → retold_answer act ≡ None
asked_retold (acts.Answer n h) is = absurd cc
asked_retold _ is = refl

asked_wants : (act : Act) → is_asked act ≡ true → (f : Family) → wanted_act act f ≡ None
asked_wants (acts.Answer n h) is f = absurd cc
asked_wants (acts.Reread stands) is f = absurd cc
asked_wants _ is f = refl

pub quiet_call : (message : ℕ) (to : ObjectKey) (act : Act) (now : ℕ) → is_asked act ≡ true → IsQuietEvent (call_event message to act now)
quiet_call message to act now is = quiet_by (call_event message to act now) (asked_retold act is) (asked_wants act is)

pub steps_same : (place : ℕ) (k : ObjectKey) (e : Event) (w : World) → IsQuietEvent e → DisksSame w (steps place k e w).done.world
unfolding steps
steps_same place k e w quiet = by (slice_get w.seats place) refl
  where
    at_node : (s : Seat) → slice_get w.seats place ≡ Some s → (up : Option Node) → DisksSame w (steps_node up s place k e w).done.world
    at_node s there None = same_self w
    at_node s there (Some n) =
        subst (λ (a : Asked). DisksSame w (steps_by a place k e n w).done.world) (sym (answers_nothing k e n s.disk s.stop quiet.retold quiet.none))
        (let a : Applied = applies k e None n in
        let first = on_seat_same place (λ (x : Seat). record x { disk = s.disk; stop = s.stop }) w
        (λ x at. (refl, ap (λ (y : Seat). y.disk.reads) (inner (sym there ∙ at)))) in
        let second = server_same place (OfNode (Some a.node)) (on_seat place (λ (x : Seat). record x { disk = s.disk; stop = s.stop }) w) in
        same_then w _ _ (same_then w _ _ first second) (requests_all_same place a.words _))

    by : (o : Option Seat) → slice_get w.seats place ≡ o
        → DisksSame w (elim o as (λ _. Stepping) [ Some s ↦ steps_node (node_in s.server) s place k e w | None ↦ no_step w ]).done.world
    by (Some s) there = at_node s there (node_in s.server)
    by None there = same_self w

-- a client's call, and what comes of its answer
module _ (to : ObjectKey) (act : Act) (behind : Said → World → Done) (quiet : (message now : ℕ) → IsQuietEvent (call_event message to act now))
    (behind_same : (answer : Said) (v : World) → DisksSame v (behind answer v).world) where
  answered_same : (message : ℕ) (answer : Option (Result StepAnswer NodeFault)) (w : World) → DisksSame w (answered_with message behind answer w).world
  answered_same message (Some answer) w = behind_same (said_in answer) w
  answered_same message None w = same_self w

  acts_same : (message : ℕ) (w : World) → DisksSame w (acts_at message to act behind w).world
  unfolding acts_at
  acts_same message w = by (slice_get w.seats (place_of to))
    where
      by : (o : Option Seat) → DisksSame w (elim o as (λ _. Done) [
        | Some s ↦ then_answers message behind (steps (place_of to) to (call_event message to act s.clock) w)
        | None ↦ nothing w
      ]).world
      by (Some s) =
          let step = steps (place_of to) to (call_event message to act s.clock) w in
          same_then w step.done.world (answered_with message behind step.answer step.done.world).world
          (steps_same (place_of to) to (call_event message to act s.clock) w (quiet message s.clock)) (answered_same message step.answer step.done.world)
      by None = same_self w

  pub calls_same : (w : World) → DisksSame w (calls to act behind w).world
  unfolding calls
  calls_same w = same_then w _ _ (sent_same (client_message (contents.Call to act)) w) (acts_same _ _)

-- ---- a tick

happens_same : (place : ℕ) (later : Node) (some : List Happening) (w : World) → DisksSame w (happens_all place later some w).world
happens_same place later [] w = same_self w
happens_same place later (h ∷ others) w =
    same_then w (happens place later h w).world (happens_all place later others (happens place later h w).world).world
    (requests_all_same place h.words w) (happens_same place later others (happens place later h w).world)

pub ticks_same : (place now : ℕ) (n : Node) (w : World) → DisksSame w (ticks_node place now n w).world
unfolding ticks_node
ticks_same place now n w =
    let t : Ticked = ticks now n in
    let seated = with_server place (OfNode (Some t.node)) w in
    let told = (happens_all place t.node t.happened seated).world in
    same_then w told (requests_all place t.words told).world
    (same_then w seated told (server_same place (OfNode (Some t.node)) w) (happens_same place t.node t.happened seated))
    (requests_all_same place t.words told)

-- ---- a word

shows_same : (name : List ℕ) (s : Option ResourceState) (w : World) → DisksSame w (state_lines name s w).world
shows_same name (Some s) w = same_self w
shows_same name None w = same_self w

moves_same : (x : NamedKey) (r : FlatResource) (next : Option State) (w : World) → DisksSame w (moves x r next w).world
moves_same x r (Some s) w = same_then w _ _ (resource_same x.key _ w) (shows_same x.name _ _)
moves_same x r None w = same_self w

answers_same : (request : ℕ) (answer : Option Said) (w : World) → DisksSame w (answers request answer w).world
answers_same request (Some answer) w = replies_same request answer w
answers_same request None w = same_self w

word_same : (word : Option EndWord) (request : ℕ) (x : NamedKey) (r : FlatResource) (w : World) → DisksSame w (obeys_word word request x r w).world
word_same (Some word) request x r w = same_then w _ _ (moves_same x r _ w) (answers_same request _ _)
word_same None request x r w = replies_same request _ w

object_same : (found : Option FlatResource) (request : ℕ) (x : NamedKey) (word : Word) (w : World) → DisksSame w (obeys_as found request x word w).world
object_same (Some r) request x word w = word_same (told_word word) request x r w
object_same None request x word w = replies_same request _ w

pub obeys_same : (request : ℕ) (o : Outward) (w : World) → DisksSame w (obeys request o w).world
unfolding obeys
obeys_same request o w = by (referred w o.to)
  where
    by : (found : Option NamedKey)
        → DisksSame w (elim found as (λ _. Done) [ Some x ↦ obeys_as (resource_at w x.key) request x o.word w | None ↦ nothing w ]).world
    by (Some x) = object_same (resource_at w x.key) request x o.word w
    by None = same_self w
