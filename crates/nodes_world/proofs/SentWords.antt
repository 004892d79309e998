-- Where a word comes from that was sent: it is one of a family of its node, or one of a record that this tells again.
use Rattle.std.proofs.Common.{◌≡◌, ◌⊎◌, inl, inr, ℕ, ◌+◌, ◌-◌, Bool, true, false, List, [], ◌∷◌, map, slice_get, Contains, Option, Some, None, refl, sym, ap, subst, ◌∙◌, arith}
use Rattle.std.specs.Prelude.{Result, Ok, Err}
use Rattle.std.proofs.lemmas.List.Elements.{Contains-append_right}
use Rattle.ior_refs.specs.declared.key.ObjectKey.{ObjectKey}
use Rattle.ots_model.specs.declared.completion.Stood.{Stood}
use Rattle.ots_model.specs.declared.line.ResourceState.{ResourceState}
use Rattle.ots_model.specs.declared.tree.Outward.{Outward}
use Rattle.ots_model.specs.declared.tree.Word.{Word}
use Rattle.resource_end.specs.declared.state.State.{State}
use Rattle.resource_end.specs.declared.state.Word.{Word as EndWord}
use Rattle.coordinator.specs.Node.{Node}
use Rattle.coordinator.specs.NodeCalls.{Applied, applies, call_wants}
use Rattle.coordinator.specs.NodeSlots.{creates}
use Rattle.coordinator.specs.NodeTick.{Happening, Ticked, ticks}
use Rattle.coordinator.specs.declared.event.Act.{Act}
use Rattle.coordinator.specs.declared.event.Event.{Event}
use Rattle.coordinator.specs.declared.node.NodeFault.{NodeFault}
use Rattle.coordinator.specs.declared.said.Said.{Said}
use Rattle.coordinator.specs.declared.said.Said.TheVariants as said
use Rattle.coordinator.specs.declared.said.StepAnswer.{StepAnswer}
use Rattle.nodes_world.specs.declared.deed.Manner.{Manner}
use Rattle.nodes_world.specs.declared.message.Content.TheVariants as contents
use Rattle.nodes_world.specs.declared.message.Message.{Message}
use Rattle.nodes_world.specs.Agreement.{IsWord}
use Rattle.nodes_world.specs.AgreementSteps.{Goes, by_alike, by_begin, by_call, by_calling, by_crash, by_end, by_hearing, by_load, by_node, by_receipt, by_register, by_sub, by_tick, by_touch, by_word, kept_message}
use Rattle.nodes_world.specs.Clients.{acts_at, answered_with, begun_with, call_event, calls, created, creates_sub, is_registered, registered, registered_if, registering, registers_at, then_answers}
use Rattle.nodes_world.specs.Deliveries.{answer_event}
use Rattle.nodes_world.specs.Ends.{answers, drawn_once, moves, obeys, obeys_as, obeys_word, state_lines, told_word, with_end, with_fresh, with_resource_at}
use Rattle.nodes_world.specs.Happenings.{Done, client_message, new_message, nothing, replies, requests, requests_all}
use Rattle.nodes_world.specs.Journals.{Asked, Answers, Stops, asks}
use Rattle.nodes_world.specs.Lives.{makes_end, with_named_seat}
use Rattle.nodes_world.specs.Nodes.{Stepping, crashes, crashes_seat, happens, happens_all, no_step, steps, steps_by, steps_node, ticks_node}
use Rattle.nodes_world.specs.Objects.{family_key, place_of, reference, resource_key}
use Rattle.nodes_world.specs.World.{World, Seat, FlatEnd, FlatResource, NamedKey, OfNode, OfEnd, end_at, next_message, node_at, node_in, on_seat, referred, resource_at, with_message, with_seat, with_sent, with_server}
use Rattle.nodes_world.proofs.Going.{get_set, node_up, on_seat_there}
use Rattle.nodes_world.proofs.KnownAlike.{map_get}
use Rattle.nodes_world.proofs.KnownSeats.{set_at}
use Rattle.nodes_world.proofs.KnownWorlds.{node_there}
use Rattle.nodes_world.proofs.MessagesGo.{sent_back}
use Rattle.nodes_world.proofs.NodesGo.{NodesStay, end_stays, seats_stay, stay_self, stay_then}
use Rattle.nodes_world.proofs.SeatSwaps.{happens_seats, requests_seats}

inner : {A : Type 0} {x y : A} → Some x ≡ Some y → x ≡ y
inner e = cc

-- a word of what a node does then: in a call, or in a tick, which leaves the node as it is in the world that comes
pub data WordComes (w v : World) (place : ℕ) (o : Outward) : Type 0 where
  of_call : (k : ObjectKey) (e : Event) (stood : Option Stood) (n : Node) → node_at w place ≡ Some n → Contains (applies k e stood n).words o → WordComes w v place o
  of_tick : (now : ℕ) (n : Node) (h : Happening) → node_at w place ≡ Some n → Contains (ticks now n).happened h → Contains h.words o → WordComes w v place o
  told_again : (now : ℕ) (n : Node) → node_at w place ≡ Some n → node_at v place ≡ Some (ticks now n).node → Contains (ticks now n).words o → WordComes w v place o

-- each word was sent before, or comes so
abbrev pub WordsCome : World → World → World → Type 0
WordsCome w v u = (nth place : ℕ) (o : Outward) → IsWord u nth place o → IsWord w nth place o ⊎ WordComes w v place o

-- no word is new
record WordsStay (w u : World) : Type 0 where
  back : (nth place : ℕ) (o : Outward) → IsWord u nth place o → IsWord w nth place o

none_new : (w : World) → WordsStay w w
none_new w = record { back = λ nth place o is. is }

then_stay : (a b c : World) → WordsStay a b → WordsStay b c → WordsStay a c
then_stay a b c first later = record { back = λ nth place o is. first.back nth place o (later.back nth place o is) }

stays_come : (w v u : World) → WordsStay w u → WordsCome w v u
stays_come w v u stay nth place o is = inl (stay.back nth place o is)

come_then_stay : (w v a b : World) → WordsCome w v a → WordsStay a b → WordsCome w v b
come_then_stay w v a b come stay nth place o is = come nth place o (stay.back nth place o is)

-- ---- what sends no word

same_messages : (w u : World) → u.messages ≡ w.messages → WordsStay w u
same_messages w u same = record { back = λ nth place o is. (is.0, ap (λ (ms : List Message). slice_get ms nth) (sym same) ∙ is.1, is.2) }

call_stays : (to : ObjectKey) (act : Act) (w : World) → WordsStay w (with_sent (client_message (contents.Call to act)) w)
call_stays to act w = record {
  back = λ nth place o is. elim (sent_back (client_message (contents.Call to act)) w nth (contents.Request place o) is) [
    | inl old ↦ old
    | inr new ↦ absurd (no new)
  ];
}
  where
    no : {place : ℕ} {o : Outward} → contents.Call to act ≡ contents.Request place o → ⊥
    no e = cc

turned_stays : (at : ℕ) (m later : Message) (w : World) → slice_get w.messages at ≡ Some m → later.content ≡ m.content → WordsStay w (with_message at later w)
turned_stays at m later w there same = record {
  back = λ nth place o is. elim (set_at w.messages at m later nth there) [
    | inl here ↦ (m, ap (slice_get w.messages) here.0 ∙ there, sym same ∙ ap (λ (x : Message). x.content) (inner (sym here.1 ∙ is.1)) ∙ is.2)
    | inr other ↦ (is.0, sym other ∙ is.1, is.2)
  ];
}

seat_stays : (place : ℕ) (change : Seat → Seat) (w : World) → WordsStay w (on_seat place change w)
seat_stays place change w = by (slice_get w.seats place)
  where
    by : (o : Option Seat) → WordsStay w (elim o as (λ _. World) [ Some s ↦ with_seat place (change s) w | None ↦ w ])
    by (Some s) = same_messages w (with_seat place (change s) w) refl
    by None = none_new w

seat_twice_stays : (place : ℕ) (first then : Seat → Seat) (w : World) → WordsStay w (on_seat place then (on_seat place first w))
seat_twice_stays place first then w = then_stay w (on_seat place first w) _ (seat_stays place first w) (seat_stays place then (on_seat place first w))

end_words : (place : ℕ) (change : FlatEnd → FlatEnd) (w : World) → WordsStay w (with_end place change w)
end_words place change w = by (end_at w place)
  where
    by : (o : Option FlatEnd) → WordsStay w (elim o as (λ _. World) [ Some e ↦ with_server place (OfEnd (Some (change e))) w | None ↦ w ])
    by (Some e) = seat_stays place (λ (s : Seat). record s { server = OfEnd (Some (change e)) }) w
    by None = none_new w

resource_words : (key : ObjectKey) (r : FlatResource) (w : World) → WordsStay w (with_resource_at key r w)
unfolding with_resource_at
resource_words key r w = end_words (place_of key) _ w

-- ---- a word that is obeyed

shown_stays : (name : List ℕ) (s : Option ResourceState) (w : World) → WordsStay w (state_lines name s w).world
shown_stays name (Some s) w = none_new w
shown_stays name None w = none_new w

moves_stay : (x : NamedKey) (r : FlatResource) (next : Option State) (w : World) → WordsStay w (moves x r next w).world
moves_stay x r (Some s) w = then_stay w _ _ (resource_words x.key _ w) (shown_stays x.name _ _)
moves_stay x r None w = none_new w

reply_stays : (request : ℕ) (answer : Said) (w : World) → WordsStay w (replies request answer w).world
unfolding replies
reply_stays request answer w = record {
  back = λ nth place o is. elim (sent_back (new_message (contents.Reply request answer)) w nth (contents.Request place o) is) [
    | inl old ↦ old
    | inr new ↦ absurd (no new)
  ];
}
  where
    no : {place : ℕ} {o : Outward} → contents.Reply request answer ≡ contents.Request place o → ⊥
    no e = cc

answers_stay : (request : ℕ) (answer : Option Said) (w : World) → WordsStay w (answers request answer w).world
answers_stay request (Some answer) w = reply_stays request answer w
answers_stay request None w = none_new w

word_stays : (word : Option EndWord) (request : ℕ) (x : NamedKey) (r : FlatResource) (w : World) → WordsStay w (obeys_word word request x r w).world
word_stays (Some word) request x r w = then_stay w _ _ (moves_stay x r _ w) (answers_stay request _ _)
word_stays None request x r w = reply_stays request _ w

object_stays : (found : Option FlatResource) (request : ℕ) (x : NamedKey) (word : Word) (w : World) → WordsStay w (obeys_as found request x word w).world
object_stays (Some r) request x word w = word_stays (told_word word) request x r w
object_stays None request x word w = reply_stays request _ w

obeys_stay : (request : ℕ) (o : Outward) (w : World) → WordsStay w (obeys request o w).world
unfolding obeys
obeys_stay request o w = by (referred w o.to)
  where
    by : (found : Option NamedKey)
        → WordsStay w (elim found as (λ _. Done) [ Some x ↦ obeys_as (resource_at w x.key) request x o.word w | None ↦ nothing w ]).world
    by (Some x) = object_stays (resource_at w x.key) request x o.word w
    by None = none_new w

-- ---- words go out

request_comes : (place : ℕ) (x : Outward) (u : World) (nth p : ℕ) (o : Outward) → IsWord (requests place x u).world nth p o
    → IsWord u nth p o ⊎ ((p ≡ place) × (x ≡ o))
unfolding requests
request_comes place x u nth p o is = elim (sent_back (new_message (contents.Request place x)) u nth (contents.Request p o) is) [
  | inl old ↦ inl old
  | inr new ↦ inr (parts new)
]
  where
    parts : contents.Request place x ≡ contents.Request p o → (p ≡ place) × (x ≡ o)
    parts e = (cc, cc)

requests_come : (place : ℕ) (some : List Outward) (u : World) (nth p : ℕ) (o : Outward) → IsWord (requests_all place some u).world nth p o
    → IsWord u nth p o ⊎ ((p ≡ place) × Contains some o)
requests_come place [] u nth p o is = inl is
requests_come place (x ∷ others) u nth p o is = elim (requests_come place others (requests place x u).world nth p o is) [
  | inl before ↦ elim (request_comes place x u nth p o before) [ inl old ↦ inl old | inr new ↦ inr (new.0, (0, omega arith, new.1)) ]
  | inr later ↦ inr (later.0, Contains-append_right (x ∷ []) others o later.1)
]

happens_come : (place : ℕ) (later : Node) (some : List Happening) (u : World) (nth p : ℕ) (o : Outward) → IsWord (happens_all place later some u).world nth p o
    → IsWord u nth p o ⊎ ((p ≡ place) × ((h : Happening) × Contains some h × Contains h.words o))
happens_come place later [] u nth p o is = inl is
happens_come place later (h ∷ others) u nth p o is = elim (happens_come place later others (happens place later h u).world nth p o is) [
  | inl before ↦ elim (requests_come place h.words u nth p o before) [ inl old ↦ inl old | inr new ↦ inr (new.0, (h, (0, omega arith, refl), new.1)) ]
  | inr new ↦ inr (new.0, (new.1.0, Contains-append_right (h ∷ []) others new.1.0 new.1.1, new.1.2))
]

-- ---- a call to a node

module _ (w v u : World) (stay : NodesStay w u) (same : WordsStay w u) (place : ℕ) (k : ObjectKey) (e : Event) where
  asked_come : (n : Node) → node_at w place ≡ Some n → (a : Asked) → WordsCome w v (steps_by a place k e n u).done.world
  unfolding crashes
  asked_come n up (Answers stood disk stop) nth p o is =
      let a : Applied = applies k e stood n in
      let first : Seat → Seat = λ x. record x { disk = disk; stop = stop } in
      let second : Seat → Seat = λ x. record x { server = OfNode (Some a.node) } in
      elim (requests_come place a.words (on_seat place second (on_seat place first u)) nth p o is) [
        | inl old ↦ inl (same.back nth p o ((seat_twice_stays place first second u).back nth p o old))
        | inr new ↦ inr (subst (λ (i : ℕ). WordComes w v i o) (sym new.0) (of_call k e stood n up new.1))
      ]
  asked_come n up (Stops image) nth p o is = inl (same.back nth p o ((by (slice_get u.seats place)).back nth p o is))
    where
      by : (x : Option Seat) → WordsStay u (elim x as (λ _. Done) [ Some s ↦ crashes_seat place image s u | None ↦ nothing u ]).world
      by (Some s) = seat_twice_stays place _ _ u
      by None = none_new u

  steps_come : WordsCome w v (steps place k e u).done.world
  unfolding steps
  steps_come = by (slice_get u.seats place) refl
    where
      at_node : (s : Seat) → slice_get u.seats place ≡ Some s → (up : Option Node) → node_in s.server ≡ up → WordsCome w v (steps_node up s place k e u).done.world
      at_node s there None up = stays_come w v u same
      at_node s there (Some n) up =
          asked_come n (stay place n (node_there u place s n there (node_up s.server n up))) (asks (call_wants k e n) n.service n.found s.disk s.stop)

      by : (o : Option Seat) → slice_get u.seats place ≡ o
          → WordsCome w v (elim o as (λ _. Stepping) [ Some s ↦ steps_node (node_in s.server) s place k e u | None ↦ no_step u ]).done.world
      by (Some s) there = at_node s there (node_in s.server) refl
      by None there = stays_come w v u same

-- a client's call, and what comes of its answer
module _ (w v : World) (to : ObjectKey) (act : Act) (behind : Said → World → Done) (behind_stays : (answer : Said) (u : World) → WordsStay u (behind answer u).world) where
  answered_stays : (message : ℕ) (answer : Option (Result StepAnswer NodeFault)) (u : World) → WordsStay u (answered_with message behind answer u).world
  answered_stays message (Some answer) u = behind_stays _ u
  answered_stays message None u = none_new u

  acts_come : (u : World) → NodesStay w u → WordsStay w u → (message : ℕ) → WordsCome w v (acts_at message to act behind u).world
  unfolding acts_at
  acts_come u stay same message = by (slice_get u.seats (place_of to))
    where
      by : (o : Option Seat) → WordsCome w v (elim o as (λ _. Done) [
        | Some s ↦ then_answers message behind (steps (place_of to) to (call_event message to act s.clock) u)
        | None ↦ nothing u
      ]).world
      by (Some s) =
          let step = steps (place_of to) to (call_event message to act s.clock) u in
          come_then_stay w v step.done.world (answered_with message behind step.answer step.done.world).world
          (steps_come w v u stay same (place_of to) to (call_event message to act s.clock)) (answered_stays message step.answer step.done.world)
      by None = stays_come w v u same

  calls_come : (u : World) → NodesStay w u → WordsStay w u → WordsCome w v (calls to act behind u).world
  unfolding calls
  calls_come u stay same =
      let sent = with_sent (client_message (contents.Call to act)) u in
      acts_come sent (stay_then w u sent stay (seats_stay u sent refl)) (then_stay w u sent same (call_stays to act u)) (next_message u)

-- ---- what is made, and what ends make

begun_stays : (place : ℕ) (name node : List ℕ) (n : Node) (answer : Result ObjectKey NodeFault) (w : World) → WordsStay w (begun_with place name node n answer w).world
begun_stays place name node n (Ok key) w =
    let later = with_server place (OfNode (Some n)) w in
    then_stay w later _ (seat_stays place (λ (s : Seat). record s { server = OfNode (Some n) }) w) (same_messages later _ refl)
begun_stays place name node n (Err fault) w = none_new w

created_stays : (parent : ObjectKey) (name : List ℕ) (answer : Said) (u : World) → WordsStay u (created parent name answer u).world
created_stays parent name (said.Made branch) u = same_messages u _ refl
created_stays parent name _ u = none_new u

sub_comes : (w v : World) (parent : ObjectKey) (name : List ℕ) → WordsCome w v (creates_sub parent name w).world
unfolding creates_sub
sub_comes w v parent name = calls_come w v parent _ (created parent name) (created_stays parent name) w (stay_self w) (none_new w)

registered_stays : (manner : Manner) (key : ObjectKey) (end : List ℕ) (transaction : ObjectKey) (name : List ℕ) (answer : Said) (u : World)
    → WordsStay u (registered manner key end transaction name answer u).world
registered_stays manner key end transaction name answer u = by (is_registered manner answer)
  where
    by : (is : Bool) → WordsStay u (registered_if is manner key end transaction name u).world
    by true =
        let changed = with_end (place_of key) (with_fresh key) u in
        then_stay u changed _ (end_words (place_of key) (with_fresh key) u) (same_messages changed _ refl)
    by false = none_new u

register_comes : (w v : World) (manner : Manner) (transaction : ObjectKey) (place : ℕ) (name : List ℕ) (s : Seat) (e : FlatEnd)
    → WordsCome w v (registers_at manner transaction place s (Some e) name w).world
register_comes w v manner transaction place name s e =
    let key = resource_key manner place (e.drawn + 1) in
    calls_come w v transaction (registering manner (reference s.name key)) (registered manner key s.name transaction name)
    (registered_stays manner key s.name transaction name) (with_end place drawn_once w) (end_stays place drawn_once w) (end_words place drawn_once w)

-- ---- a tick

ticks_come : (w : World) (place now : ℕ) (s : Seat) (n : Node) → slice_get w.seats place ≡ Some s → s.server ≡ OfNode (Some n)
    → WordsCome w (ticks_node place now n w).world (ticks_node place now n w).world
unfolding ticks_node
ticks_come w place now s n there up nth p o is = elim (requests_come place t.words told nth p o is) [
  | inl before ↦ elim (happens_come place t.node t.happened seated nth p o before) [
    | inl old ↦ inl ((seat_stays place change w).back nth p o old)
    | inr new ↦ inr (subst (λ (i : ℕ). WordComes w last i o) (sym new.0) (of_tick now n new.1.0 node_up_then new.1.1 new.1.2))
  ]
  | inr again ↦ inr (subst (λ (i : ℕ). WordComes w last i o) (sym again.0) (told_again now n node_up_then up_now again.1))
]
  where
    t : Ticked
    t = ticks now n

    change : Seat → Seat
    change x = record x { server = OfNode (Some t.node) }

    seated : World
    seated = on_seat place change w

    told : World
    told = (happens_all place t.node t.happened seated).world

    last : World
    last = (requests_all place t.words told).world

    node_up_then : node_at w place ≡ Some n
    node_up_then = node_there w place s n there up

    seat_now : slice_get last.seats place ≡ Some (change s)
    seat_now =
        ap (λ (ss : List Seat). slice_get ss place)
        (requests_seats place t.words told ∙ happens_seats place t.node t.happened seated ∙ ap (λ (x : World). x.seats) (on_seat_there place change w s there))
        ∙ get_set w.seats place s (change s) there

    up_now : node_at last place ≡ Some t.node
    up_now = node_there last place (change s) t.node seat_now refl

-- ---- each step

alike_stays : (w v : World) → map kept_message v.messages ≡ map kept_message w.messages → WordsStay w v
alike_stays w v same = record {
  back = λ nth place o is.
      let at = map_get kept_message v.messages w.messages nth is.0 same is.1 in
      (at.0, at.1, ap (λ (x : Message). x.content) at.2 ∙ is.2);
}

made_end_stays : (w : World) (name : List ℕ) → WordsStay w (makes_end name w).world
unfolding makes_end
made_end_stays w name = same_messages w _ refl

pub words_come : (w : World) (d : Done) → Goes w d → WordsCome w d.world d.world
words_come w _ (by_alike v quiet alike all) = stays_come w v v (alike_stays w v alike.messages)
words_come w _ (by_receipt number) = stays_come w w w (none_new w)
words_come w _ (by_node name free room) = stays_come w (with_named_seat name (OfNode None) w) (with_named_seat name (OfNode None) w) (same_messages w (with_named_seat name (OfNode None) w) refl)
words_come w _ (by_end name free room short) = stays_come w _ _ (made_end_stays w name)
words_come w _ (by_load place s rs there down held lacks) = stays_come w _ _ (seat_twice_stays place _ _ w)
words_come w _ (by_crash place s n there up) = stays_come w _ _ (seat_twice_stays place _ _ w)
words_come w _ (by_begin place name seconds s n there up free) =
    stays_come w _ _ (begun_stays place name s.name (creates s.clock seconds n).node (creates s.clock seconds n).answer w)
words_come w _ (by_calling to act asked few) = stays_come w _ _ (call_stays to act w)
words_come w _ (by_call nth now to act m there is asked) =
    steps_come w _ w (stay_self w) (none_new w) (place_of to) to (call_event (nth + 1) to act now)
words_come w _ (by_sub parent name free few) = sub_comes w _ parent name
words_come w _ (by_register manner transaction place name s e there up free may few) = register_comes w _ manner transaction place name s e
words_come w _ (by_touch name key r later named there touched) = stays_come w _ _ (resource_words key later w)
words_come w _ (by_word nth place o is) = stays_come w _ _ (obeys_stay (nth + 1) o w)
words_come w _ (by_hearing request from reply o m back answer s there is replied says seated waits) =
    let u = with_message (request - 1) (record m { answered = true }) w in
    steps_come w _ u (seats_stay w u refl) (turned_stays (request - 1) m (record m { answered = true }) w there refl) from (family_key from o.number)
    (answer_event o answer s.clock)
words_come w _ (by_tick place s n there up) = ticks_come w place s.clock s n there up
