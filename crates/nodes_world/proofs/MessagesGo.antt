-- What was sent stays, once something has come of a world; and no reply is new, but that of a resource which obeys a word.
use Rattle.std.proofs.Common.{◌≡◌, ◌⊎◌, inl, inr, ℕ, ◌+◌, ◌-◌, Bool, true, false, List, [], ◌∷◌, map, slice_get, Option, Some, None, refl, sym, ap, ◌∙◌}
use Rattle.std.specs.Prelude.{Result, Ok, Err}
use Rattle.ior_refs.specs.declared.key.ObjectKey.{ObjectKey}
use Rattle.ots_model.specs.declared.tree.Outward.{Outward}
use Rattle.ots_model.specs.declared.tree.Word.{Word}
use Rattle.resource_end.specs.declared.state.State.{State}
use Rattle.resource_end.specs.declared.state.Word.{Word as EndWord}
use Rattle.coordinator.specs.Node.{Node}
use Rattle.coordinator.specs.NodeCalls.{Applied, applies, call_wants}
use Rattle.coordinator.specs.NodeSlots.{creates}
use Rattle.coordinator.specs.NodeTick.{Happening, Ticked, ticks}
use Rattle.coordinator.specs.declared.event.Act.{Act}
use Rattle.coordinator.specs.declared.event.Event.{Event}
use Rattle.coordinator.specs.declared.node.NodeFault.{NodeFault}
use Rattle.coordinator.specs.declared.said.Said.{Said}
use Rattle.coordinator.specs.declared.said.Said.TheVariants as said
use Rattle.coordinator.specs.declared.said.StepAnswer.{StepAnswer}
use Rattle.nodes_world.specs.declared.deed.Manner.{Manner}
use Rattle.nodes_world.specs.declared.message.Content.{Content}
use Rattle.nodes_world.specs.declared.message.Content.TheVariants as contents
use Rattle.nodes_world.specs.declared.message.Message.{Message}
use Rattle.nodes_world.specs.AgreementSteps.{Goes, IsAlike, by_alike, by_begin, by_call, by_calling, by_crash, by_end, by_hearing, by_load, by_node, by_receipt, by_register, by_sub, by_tick, by_touch, by_word, kept_message}
use Rattle.nodes_world.specs.Agreement.{IsWord}
use Rattle.nodes_world.specs.Clients.{acts_at, answered_with, begun_with, call_event, calls, created, creates_sub, is_registered, registered, registered_if, registering, registers_at, then_answers}
use Rattle.nodes_world.specs.Deliveries.{answer_event, hears_answer}
use Rattle.nodes_world.specs.Ends.{answers, drawn_once, moves, obeys, obeys_as, obeys_word, state_lines, told_word, with_end, with_fresh, with_resource_at}
use Rattle.nodes_world.specs.Happenings.{Done, client_message, nothing, replies, requests, requests_all}
use Rattle.nodes_world.specs.Journals.{Asked, Answers, Stops, asks}
use Rattle.nodes_world.specs.Lives.{makes_end}
use Rattle.nodes_world.specs.Nodes.{Stepping, crashes, crashes_seat, happens, happens_all, no_step, steps, steps_by, steps_node, ticks_node}
use Rattle.nodes_world.specs.Objects.{family_key, place_of, reference, resource_key}
use Rattle.nodes_world.specs.World.{World, Seat, FlatEnd, FlatResource, NamedKey, OfNode, OfEnd, end_at, next_message, node_in, on_seat, referred, resource_at, with_message, with_seat, with_sent, with_server}
use Rattle.ots_model.specs.declared.line.ResourceState.{ResourceState}
use Rattle.nodes_world.proofs.KnownAlike.{map_get}
use Rattle.nodes_world.proofs.KnownFrames.{push_cases, push_kept}
use Rattle.nodes_world.proofs.KnownSeats.{set_at}

-- what was sent so-many-th has this content
abbrev pub HasContent : World → ℕ → Content → Type 0
HasContent w nth content = (m : Message) × (slice_get w.messages nth ≡ Some m) × (m.content ≡ content)

abbrev pub is_reply : Content → Bool
is_reply (contents.Call to act) = false
is_reply (contents.Request from o) = false
is_reply (contents.Reply request answer) = true

pub record MessagesGo (w v : World) : Type 0 where
  pub on : (nth : ℕ) (content : Content) → HasContent w nth content → HasContent v nth content
  pub back : (nth : ℕ) (content : Content) → is_reply content ≡ true → HasContent v nth content → HasContent w nth content

-- a resource answers the request with a number
pub record AnswersOne (request : ℕ) (w v : World) : Type 0 where
  pub on : (nth : ℕ) (content : Content) → HasContent w nth content → HasContent v nth content
  pub back : (nth other : ℕ) (answer : Said) → HasContent v nth (contents.Reply other answer) → HasContent w nth (contents.Reply other answer) ⊎ (other ≡ request)

go_self : (w : World) → MessagesGo w w
go_self w = record { on = λ nth content has. has; back = λ nth content is has. has }

pub go_then : (a b c : World) → MessagesGo a b → MessagesGo b c → MessagesGo a c
go_then a b c first later = record {
  on = λ nth content has. later.on nth content (first.on nth content has);
  back = λ nth content is has. first.back nth content is (later.back nth content is has);
}

-- ---- the changes of which all are made

same_go : (w v : World) → v.messages ≡ w.messages → MessagesGo w v
same_go w v same = record {
  on = λ nth content has. (has.0, ap (λ (ms : List Message). slice_get ms nth) same ∙ has.1, has.2);
  back = λ nth content is has. (has.0, ap (λ (ms : List Message). slice_get ms nth) (sym same) ∙ has.1, has.2);
}

sent_on : (m : Message) (w : World) (nth : ℕ) (content : Content) → HasContent w nth content → HasContent (with_sent m w) nth content
sent_on m w nth content has = (has.0, push_kept w.messages nth m has.0 has.1, has.2)

pub sent_back : (m : Message) (w : World) (nth : ℕ) (content : Content) → HasContent (with_sent m w) nth content → HasContent w nth content ⊎ (m.content ≡ content)
sent_back m w nth content has = elim (push_cases w.messages nth m has.0 has.1) [
  | inl old ↦ inl (has.0, old, has.2)
  | inr new ↦ inr (ap (λ (x : Message). x.content) (sym new.1) ∙ has.2)
]

sent_go : (m : Message) (w : World) → is_reply m.content ≡ false → MessagesGo w (with_sent m w)
sent_go m w none = record {
  on = sent_on m w;
  back = λ nth content is has. elim (sent_back m w nth content has) [
    | inl old ↦ old
    | inr new ↦ absurd (no (sym none ∙ ap is_reply new ∙ is))
  ];
}
  where
    no : false ≡ true → ⊥
    no e = cc

inner : {A : Type 0} {x y : A} → Some x ≡ Some y → x ≡ y
inner e = cc

turned_go : (place : ℕ) (m later : Message) (w : World) → slice_get w.messages place ≡ Some m → later.content ≡ m.content → MessagesGo w (with_message place later w)
turned_go place m later w there same = record {
  on = λ nth content has. elim (set_at w.messages place m later nth there) [
    | inl here ↦ (later, here.1, same ∙ ap (λ (x : Message). x.content) (inner (sym there ∙ ap (slice_get w.messages) (sym here.0) ∙ has.1)) ∙ has.2)
    | inr other ↦ (has.0, other ∙ has.1, has.2)
  ];
  back = λ nth content is has. elim (set_at w.messages place m later nth there) [
    | inl here ↦ (m, ap (slice_get w.messages) here.0 ∙ there, sym same ∙ ap (λ (x : Message). x.content) (inner (sym here.1 ∙ has.1)) ∙ has.2)
    | inr other ↦ (has.0, sym other ∙ has.1, has.2)
  ];
}

seat_go : (place : ℕ) (change : Seat → Seat) (w : World) → MessagesGo w (on_seat place change w)
seat_go place change w = by (slice_get w.seats place)
  where
    by : (o : Option Seat) → MessagesGo w (elim o as (λ _. World) [ Some s ↦ with_seat place (change s) w | None ↦ w ])
    by (Some s) = same_go w (with_seat place (change s) w) refl
    by None = go_self w

seat_twice_go : (place : ℕ) (first then : Seat → Seat) (w : World) → MessagesGo w (on_seat place then (on_seat place first w))
seat_twice_go place first then w = go_then w (on_seat place first w) _ (seat_go place first w) (seat_go place then (on_seat place first w))

end_go : (place : ℕ) (change : FlatEnd → FlatEnd) (w : World) → MessagesGo w (with_end place change w)
end_go place change w = by (end_at w place)
  where
    by : (o : Option FlatEnd) → MessagesGo w (elim o as (λ _. World) [ Some e ↦ with_server place (OfEnd (Some (change e))) w | None ↦ w ])
    by (Some e) = seat_go place (λ (s : Seat). record s { server = OfEnd (Some (change e)) }) w
    by None = go_self w

resource_go : (key : ObjectKey) (r : FlatResource) (w : World) → MessagesGo w (with_resource_at key r w)
unfolding with_resource_at
resource_go key r w = end_go (place_of key) _ w

-- ---- words

request_go : (place : ℕ) (o : Outward) (w : World) → MessagesGo w (requests place o w).world
unfolding requests
request_go place o w = sent_go _ w refl

requests_go : (place : ℕ) (some : List Outward) (w : World) → MessagesGo w (requests_all place some w).world
requests_go place [] w = go_self w
requests_go place (o ∷ others) w =
    go_then w (requests place o w).world (requests_all place others (requests place o w).world).world (request_go place o w)
    (requests_go place others (requests place o w).world)

-- ---- a call to a node

steps_go : (place : ℕ) (k : ObjectKey) (e : Event) (w : World) → MessagesGo w (steps place k e w).done.world
unfolding steps crashes
steps_go place k e w = by (slice_get w.seats place)
  where
    crash : (image : List ℕ) (o : Option Seat)
        → MessagesGo w (elim o as (λ _. Done) [ Some s ↦ crashes_seat place image s w | None ↦ nothing w ]).world
    crash image (Some s) = seat_twice_go place _ _ w
    crash image None = go_self w

    asked : (n : Node) (a : Asked) → MessagesGo w (steps_by a place k e n w).done.world
    asked n (Answers stood disk stop) =
        let a : Applied = applies k e stood n in
        let first : Seat → Seat = λ x. record x { disk = disk; stop = stop } in
        let second : Seat → Seat = λ x. record x { server = OfNode (Some a.node) } in
        go_then w (on_seat place second (on_seat place first w)) _ (seat_twice_go place first second w) (requests_go place a.words _)
    asked n (Stops image) = crash image (slice_get w.seats place)

    at_node : (s : Seat) (up : Option Node) → MessagesGo w (steps_node up s place k e w).done.world
    at_node s None = go_self w
    at_node s (Some n) = asked n (asks (call_wants k e n) n.service n.found s.disk s.stop)

    by : (o : Option Seat) → MessagesGo w (elim o as (λ _. Stepping) [ Some s ↦ steps_node (node_in s.server) s place k e w | None ↦ no_step w ]).done.world
    by (Some s) = at_node s (node_in s.server)
    by None = go_self w

-- a client's call, and what comes of its answer
module _ (to : ObjectKey) (act : Act) (behind : Said → World → Done) (behind_go : (answer : Said) (v : World) → MessagesGo v (behind answer v).world) where
  answered_go : (message : ℕ) (answer : Option (Result StepAnswer NodeFault)) (w : World) → MessagesGo w (answered_with message behind answer w).world
  answered_go message (Some answer) w = behind_go _ w
  answered_go message None w = go_self w

  acts_go : (message : ℕ) (w : World) → MessagesGo w (acts_at message to act behind w).world
  unfolding acts_at
  acts_go message w = by (slice_get w.seats (place_of to))
    where
      by : (o : Option Seat) → MessagesGo w (elim o as (λ _. Done) [
        | Some s ↦ then_answers message behind (steps (place_of to) to (call_event message to act s.clock) w)
        | None ↦ nothing w
      ]).world
      by (Some s) =
          let step = steps (place_of to) to (call_event message to act s.clock) w in
          go_then w step.done.world (answered_with message behind step.answer step.done.world).world
          (steps_go (place_of to) to (call_event message to act s.clock) w) (answered_go message step.answer step.done.world)
      by None = go_self w

  calls_go : (w : World) → MessagesGo w (calls to act behind w).world
  unfolding calls
  calls_go w =
      let sent = with_sent (client_message (contents.Call to act)) w in
      go_then w sent (acts_at (next_message w) to act behind sent).world (sent_go _ w refl) (acts_go (next_message w) sent)

-- ---- transactions and registrations

begun_go : (place : ℕ) (name node : List ℕ) (n : Node) (answer : Result ObjectKey NodeFault) (w : World) → MessagesGo w (begun_with place name node n answer w).world
begun_go place name node n (Ok key) w =
    let later = with_server place (OfNode (Some n)) w in
    go_then w later _ (seat_go place (λ (s : Seat). record s { server = OfNode (Some n) }) w) (same_go later _ refl)
begun_go place name node n (Err fault) w = go_self w

created_go : (parent : ObjectKey) (name : List ℕ) (answer : Said) (v : World) → MessagesGo v (created parent name answer v).world
created_go parent name (said.Made branch) v = same_go v _ refl
created_go parent name _ v = go_self v

sub_go : (w : World) (parent : ObjectKey) (name : List ℕ) → MessagesGo w (creates_sub parent name w).world
unfolding creates_sub
sub_go w parent name = calls_go parent _ (created parent name) (created_go parent name) w

registered_go : (manner : Manner) (key : ObjectKey) (end : List ℕ) (transaction : ObjectKey) (name : List ℕ) (answer : Said) (v : World)
    → MessagesGo v (registered manner key end transaction name answer v).world
registered_go manner key end transaction name answer v = by (is_registered manner answer)
  where
    by : (is : Bool) → MessagesGo v (registered_if is manner key end transaction name v).world
    by true =
        let changed = with_end (place_of key) (with_fresh key) v in
        go_then v changed _ (end_go (place_of key) (with_fresh key) v) (same_go changed _ refl)
    by false = go_self v

register_go : (w : World) (manner : Manner) (transaction : ObjectKey) (place : ℕ) (name : List ℕ) (s : Seat) (e : FlatEnd)
    → MessagesGo w (registers_at manner transaction place s (Some e) name w).world
register_go w manner transaction place name s e =
    let key = resource_key manner place (e.drawn + 1) in
    let drawn = with_end place drawn_once w in
    go_then w drawn _ (end_go place drawn_once w)
    (calls_go transaction (registering manner (reference s.name key)) (registered manner key s.name transaction name) (registered_go manner key s.name transaction name) drawn)

-- ---- a tick

happens_go : (place : ℕ) (later : Node) (some : List Happening) (w : World) → MessagesGo w (happens_all place later some w).world
happens_go place later [] w = go_self w
happens_go place later (h ∷ others) w =
    go_then w (happens place later h w).world (happens_all place later others (happens place later h w).world).world
    (requests_go place h.words w) (happens_go place later others (happens place later h w).world)

ticks_go : (place now : ℕ) (n : Node) (w : World) → MessagesGo w (ticks_node place now n w).world
unfolding ticks_node
ticks_go place now n w =
    let t : Ticked = ticks now n in
    let seated = with_server place (OfNode (Some t.node)) w in
    let told = (happens_all place t.node t.happened seated).world in
    go_then w told (requests_all place t.words told).world
    (go_then w seated told (seat_go place (λ (s : Seat). record s { server = OfNode (Some t.node) }) w) (happens_go place t.node t.happened seated))
    (requests_go place t.words told)

-- ---- an answer that is heard

hearing_go : (w : World) (place from : ℕ) (o : Outward) (m : Message) (answer : Said) (s : Seat) → slice_get w.messages place ≡ Some m
    → MessagesGo w (hears_answer place m from o answer s w).world
hearing_go w place from o m answer s there =
    let later : Message = record m { answered = true } in
    go_then w (with_message place later w) _ (turned_go place m later w there refl) (steps_go from (family_key from o.number) (answer_event o answer s.clock) _)

-- ---- worlds that are alike

alike_go : (w v : World) → IsAlike w v → MessagesGo w v
alike_go w v alike = record {
  on = λ nth content has. by w v nth content alike.messages has;
  back = λ nth content is has. by v w nth content (sym alike.messages) has;
}
  where
    by : (a b : World) (nth : ℕ) (content : Content) → map kept_message b.messages ≡ map kept_message a.messages → HasContent a nth content → HasContent b nth content
    by a b nth content same has =
        let at = map_get kept_message a.messages b.messages nth has.0 (sym same) has.1 in
        (at.0, at.1, ap (λ (x : Message). x.content) at.2 ∙ has.2)

-- ---- a word that is obeyed

shown_go : (name : List ℕ) (s : Option ResourceState) (w : World) → MessagesGo w (state_lines name s w).world
shown_go name (Some s) w = go_self w
shown_go name None w = go_self w

moves_go : (x : NamedKey) (r : FlatResource) (next : Option State) (w : World) → MessagesGo w (moves x r next w).world
moves_go x r (Some s) w = go_then w _ _ (resource_go x.key _ w) (shown_go x.name _ _)
moves_go x r None w = go_self w

go_answers : (request : ℕ) (a b c : World) → MessagesGo a b → AnswersOne request b c → AnswersOne request a c
go_answers request a b c first later = record {
  on = λ nth content has. later.on nth content (first.on nth content has);
  back = λ nth other answer has. elim (later.back nth other answer has) [
    | inl old ↦ inl (first.back nth (contents.Reply other answer) refl old)
    | inr new ↦ inr new
  ];
}

none_answers : (request : ℕ) (w : World) → AnswersOne request w w
none_answers request w = record { on = λ nth content has. has; back = λ nth other answer has. inl has }

reply_answers : (request : ℕ) (answer : Said) (w : World) → AnswersOne request w (replies request answer w).world
unfolding replies
reply_answers request answer w = record {
  on = sent_on _ w;
  back = λ nth other says has. elim (sent_back _ w nth (contents.Reply other says) has) [
    | inl old ↦ inl old
    | inr new ↦ inr (number new)
  ];
}
  where
    number : {a b : ℕ} {x y : Said} → contents.Reply a x ≡ contents.Reply b y → b ≡ a
    number e = cc

maybe_answers : (request : ℕ) (answer : Option Said) (w : World) → AnswersOne request w (answers request answer w).world
maybe_answers request (Some answer) w = reply_answers request answer w
maybe_answers request None w = none_answers request w

word_answers : (word : Option EndWord) (request : ℕ) (x : NamedKey) (r : FlatResource) (w : World) → AnswersOne request w (obeys_word word request x r w).world
word_answers (Some word) request x r w = go_answers request w _ _ (moves_go x r _ w) (maybe_answers request _ _)
word_answers None request x r w = reply_answers request _ w

object_answers : (found : Option FlatResource) (request : ℕ) (x : NamedKey) (word : Word) (w : World) → AnswersOne request w (obeys_as found request x word w).world
object_answers (Some r) request x word w = word_answers (told_word word) request x r w
object_answers None request x word w = reply_answers request _ w

pub obeys_answers : (request : ℕ) (o : Outward) (w : World) → AnswersOne request w (obeys request o w).world
unfolding obeys
obeys_answers request o w = by (referred w o.to)
  where
    by : (found : Option NamedKey)
        → AnswersOne request w (elim found as (λ _. Done) [ Some x ↦ obeys_as (resource_at w x.key) request x o.word w | None ↦ nothing w ]).world
    by (Some x) = object_answers (resource_at w x.key) request x o.word w
    by None = none_answers request w

-- ---- each step

made_end_go : (w : World) (name : List ℕ) → MessagesGo w (makes_end name w).world
unfolding makes_end
made_end_go w name = same_go w _ refl

-- a resource obeys a word, or no reply is new
pub data MessagesStep (w : World) : Done → Type 0 where
  goes : (d : Done) → MessagesGo w d.world → MessagesStep w d
  obeys_one : (nth place : ℕ) (o : Outward) → IsWord w nth place o → MessagesStep w (obeys (nth + 1) o w)

pub messages_step : (w : World) (d : Done) → Goes w d → MessagesStep w d
messages_step w d (by_alike v quiet alike all) = goes _ (alike_go w v alike)
messages_step w d (by_receipt number) = goes _ (go_self w)
messages_step w d (by_node name free room) = goes _ (same_go w _ refl)
messages_step w d (by_end name free room short) = goes _ (made_end_go w name)
messages_step w d (by_load place s rs there down held lacks) = goes _ (seat_twice_go place _ _ w)
messages_step w d (by_crash place s n there up) = goes _ (seat_twice_go place _ _ w)
messages_step w d (by_begin place name seconds s n there up free) =
    goes _ (begun_go place name s.name (creates s.clock seconds n).node (creates s.clock seconds n).answer w)
messages_step w d (by_calling to act asked few) = goes _ (sent_go _ w refl)
messages_step w d (by_call nth now to act m there is asked) = goes _ (steps_go (place_of to) to (call_event (nth + 1) to act now) w)
messages_step w d (by_sub parent name free few) = goes _ (sub_go w parent name)
messages_step w d (by_register manner transaction place name s e there up free may few) = goes _ (register_go w manner transaction place name s e)
messages_step w d (by_touch name key r later named there touched) = goes _ (resource_go key later w)
messages_step w d (by_word nth place o is) = obeys_one nth place o is
messages_step w d (by_hearing request from reply o m back answer s there is replied says seated waits) =
    goes _ (hearing_go w (request - 1) from o m answer s there)
messages_step w d (by_tick place s n there up) = goes _ (ticks_go place s.clock n w)
