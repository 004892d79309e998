-- A client's call goes out and acts.
use Rattle.std.proofs.Common.{◌≡◌, ℕ, ◌≤◌, List, [], ◌∷◌, ◌++◌, length, slice_get, unwrap_or, Option, Some, None, Result, Ok, Err, refl, sym, ap, subst, ◌∙◌, arith, append_assoc, length-append}
use Rattle.std.specs.Option.{option_map}
use Rattle.ior_refs.specs.declared.key.ObjectKey.{ObjectKey}
use Rattle.ots_model.specs.declared.tree.Outward.{Outward}
use Rattle.ots_outside.specs.Disk.{DiskState, at_first}
use Rattle.ots_world.specs.declared.fault.WorldFault.{WorldFault}
use Rattle.ots_world.specs.declared.fault.WorldFault.TheVariants as faults
use Rattle.coordinator.specs.History.{is_later}
use Rattle.coordinator.specs.Node.{Node}
use Rattle.coordinator.specs.NodeCalls.{applies, call_wants}
use Rattle.coordinator.specs.declared.event.Act.{Act}
use Rattle.coordinator.specs.declared.event.Event.{Event}
use Rattle.coordinator.specs.declared.node.NodeFault.{NodeFault}
use Rattle.coordinator.specs.declared.said.Said.{Said}
use Rattle.coordinator.specs.declared.said.StepAnswer.{StepAnswer}
use Rattle.nodes_world.specs.declared.message.Content.TheVariants as contents
use Rattle.nodes_world.specs.Clients.{acts_at, answer_only, answered_with, call_event, calls, said_in, said_lines, then_answers}
use Rattle.nodes_world.specs.Disks.{Stop}
use Rattle.nodes_world.specs.Happenings.{Done, ◌▹◌, new_message, nothing, requests, requests_all}
use Rattle.nodes_world.specs.Journals.{Answers, Asked, Stops, asks}
use Rattle.nodes_world.specs.Nodes.{Stepping, crashes, crashes_seat, no_step, steps, steps_by, steps_node}
use Rattle.nodes_world.specs.Objects.{place_of}
use Rattle.nodes_world.specs.World.{OfNode, Seat, Server, World, next_message, node_in, on_seat, with_disk, with_seat, with_server}
use Rattle.nodes_world.specs.Limits.{seat_limit}
use Rattle.nodes_world.specs.Told.{Told}
use Rattle.nodes_state.specs.declared.state.State.{State}
use Rattle.nodes_state.specs.Does.{BreaksOff, Does}
use Rattle.nodes_state.specs.Telling.{Tells}
use Rattle.nodes_state.proofs.Doing.{breaks_first, breaks_later, does_then, part_none, tells_part_then, tells_then}
use Rattle.nodes_clients.specs.Called.{HasMade, IsMade, acts_in, called, made_lines}
use Rattle.nodes_clients.specs.Calling.{sends_call}
use Rattle.nodes_clients.specs.Carrying.{HasCarried}
use Rattle.nodes_clients.specs.declared.called.Made.{Made}
use Rattle.nodes_clients.proofs.Carried.{steps_nowhere}

-- ---- no message goes away

on_seat_messages : (place : ℕ) (change : Seat → Seat) (w : World) → (on_seat place change w).messages ≡ w.messages
on_seat_messages place change w = by_seat (slice_get w.seats place)
  where
    by_seat : (o : Option Seat) → (elim o as (λ _. World) [ Some s ↦ with_seat place (change s) w | None ↦ w ]).messages ≡ w.messages
    by_seat (Some s) = refl
    by_seat None = refl

request_grows : (place : ℕ) (o : Outward) (w : World) → length w.messages ≤ length (requests place o w).world.messages
unfolding requests
request_grows place o w =
    subst (λ n. length w.messages ≤ n) (sym (length-append w.messages (new_message (contents.Request place o) ∷ []))) (omega arith)

requests_grow : (place : ℕ) (os : List Outward) (w : World) → length w.messages ≤ length (requests_all place os w).world.messages
requests_grow place [] w = omega arith
requests_grow place (o ∷ os) w =
    let one = request_grows place o w in
    let more = requests_grow place os (requests place o w).world in
    let all : length w.messages ≤ length (requests_all place os (requests place o w).world).world.messages = omega arith in
    all

server_messages : (place : ℕ) (server : Server) (disk : DiskState) (stop : Option Stop) (w : World)
    → (with_server place server (with_disk place disk stop w)).messages ≡ w.messages
server_messages place server disk stop w =
    on_seat_messages place (λ (s : Seat). record s { server = server }) (with_disk place disk stop w)
    ∙ on_seat_messages place (λ (s : Seat). record s { disk = disk; stop = stop }) w

crash_messages : (place : ℕ) (image : List ℕ) (w : World) → (crashes place image w).world.messages ≡ w.messages
unfolding crashes
crash_messages place image w = by_seat (slice_get w.seats place)
  where
    by_seat : (o : Option Seat) → (elim o as (λ _. Done) [ Some s ↦ crashes_seat place image s w | None ↦ nothing w ]).world.messages ≡ w.messages
    by_seat (Some s) = server_messages place (OfNode None) (at_first image) None w
    by_seat None = refl

by_asked_grows : (x : Asked) (place : ℕ) (k : ObjectKey) (e : Event) (n : Node) (w : World)
    → length w.messages ≤ length (steps_by x place k e n w).done.world.messages
by_asked_grows (Answers stood disk stop) place k e n w =
    let a = applies k e stood n in
    let v : World = with_server place (OfNode (Some a.node)) (with_disk place disk stop w) in
    let same : length v.messages ≡ length w.messages = ap (λ ms. length ms) (server_messages place (OfNode (Some a.node)) disk stop w) in
    let more = requests_grow place a.words v in
    let all : length w.messages ≤ length (requests_all place a.words v).world.messages = omega arith in
    all
by_asked_grows (Stops image) place k e n w =
    let same : length (crashes place image w).world.messages ≡ length w.messages = ap (λ ms. length ms) (crash_messages place image w) in
    let all : length w.messages ≤ length (crashes place image w).world.messages = omega arith in
    all

by_node_grows : (o : Option Node) (s : Seat) (place : ℕ) (k : ObjectKey) (e : Event) (w : World)
    → length w.messages ≤ length (steps_node o s place k e w).done.world.messages
by_node_grows (Some n) s place k e w = by_asked_grows (asks (call_wants k e n) n.service n.found s.disk s.stop) place k e n w
by_node_grows None s place k e w = omega arith

pub steps_grow : (place : ℕ) (k : ObjectKey) (e : Event) (w : World) → length w.messages ≤ length (steps place k e w).done.world.messages
unfolding steps
steps_grow place k e w = by_seat (slice_get w.seats place)
  where
    by_seat : (o : Option Seat)
        → length w.messages ≤ length (elim o as (λ _. Stepping) [ Some s ↦ steps_node (node_in s.server) s place k e w | None ↦ no_step w ]).done.world.messages
    by_seat (Some s) = by_node_grows (node_in s.server) s place k e w
    by_seat None = omega arith

pub acts_grow : (message : ℕ) (to : ObjectKey) (act : Act) (w : World) → length w.messages ≤ length (acts_in message to act w).done.world.messages
acts_grow message to act w = by_seat (slice_get w.seats (place_of to))
  where
    by_seat : (o : Option Seat)
        → length w.messages ≤ length (elim o as (λ _. Stepping) [ Some s ↦ steps (place_of to) to (call_event message to act s.clock) w | None ↦ no_step w ]).done.world.messages
    by_seat (Some s) = steps_grow (place_of to) to (call_event message to act s.clock) w
    by_seat None = omega arith

-- ---- a call is what goes out and acts, and then what comes of its answer

abbrev acts_by : Option Seat → ℕ → ObjectKey → Act → World → Stepping
acts_by o message to act w = elim o as (λ _. Stepping) [ Some s ↦ steps (place_of to) to (call_event message to act s.clock) w | None ↦ no_step w ]

acts_is : (message : ℕ) (to : ObjectKey) (act : Act) (behind : Said → World → Done) (w : World)
    → acts_at message to act behind w ≡ then_answers message behind (acts_in message to act w)
unfolding acts_at
acts_is message to act behind w = by_seat (slice_get w.seats (place_of to))
  where
    by_seat : (o : Option Seat)
        → (elim o as (λ _. Done) [ Some s ↦ then_answers message behind (steps (place_of to) to (call_event message to act s.clock) w) | None ↦ nothing w ])
        ≡ then_answers message behind (acts_by o message to act w)
    by_seat (Some s) = refl
    by_seat None = refl

pub calls_is : (to : ObjectKey) (act : Act) (behind : Said → World → Done) (w : World)
    → calls to act behind w ≡ (called to act w).done ▹ answered_with (next_message w) behind (called to act w).answer
unfolding calls
calls_is to act behind w =
    let v = (sends_call to act w).world in
    let acted = acts_in (next_message w) to act v in
    ap (λ (d : Done). record { world = d.world; lines = (sends_call to act w).lines ++ d.lines }) (acts_is (next_message w) to act behind v)
    ∙ ap (λ ls. record { world = (then_answers (next_message w) behind acted).world; lines = ls })
    (sym (append_assoc (sends_call to act w).lines acted.done.lines (answered_with (next_message w) behind acted.answer acted.done.world).lines))

-- ---- what was done

-- the call with a number acts at the moment of the seat's clock
acts_there : (message : ℕ) (to : ObjectKey) (act : Act) (w : World) (now : ℕ) → ((s : Seat) → slice_get w.seats (place_of to) ≡ Some s → now ≡ s.clock)
    → acts_in message to act w ≡ steps (place_of to) to (call_event message to act now) w
acts_there message to act w now same = by_seat (slice_get w.seats (place_of to)) refl
  where
    by_seat : (o : Option Seat) → slice_get w.seats (place_of to) ≡ o → acts_by o message to act w ≡ steps (place_of to) to (call_event message to act now) w
    by_seat (Some s) there = ap (λ t. steps (place_of to) to (call_event message to act t) w) (sym (same s there))
    by_seat None there = sym (steps_nowhere (place_of to) to (call_event message to act now) w there)

pub clock_read : (w : World) (place now : ℕ) → now ≡ unwrap_or (option_map (λ (s : Seat). s.clock) (slice_get w.seats place)) 0 → (s : Seat)
    → slice_get w.seats place ≡ Some s → now ≡ s.clock
clock_read w place now is s there = is ∙ ap (λ o. unwrap_or (option_map (λ (x : Seat). x.clock) o) 0) there

module _ (to : ObjectKey) (act : Act) (w : World) (now : ℕ) (same : (s : Seat) → slice_get w.seats (place_of to) ≡ Some s → now ≡ s.clock) where
  abbrev behind_it : World → Done
  behind_it v = (acts_in (next_message w) to act v).done

  abbrev event : Event
  event = call_event (next_message w) to act now

  pub made_first : (v : World) (before after : List ℕ) (result : Result Made WorldFault) (fault : WorldFault) → result ≡ Err fault
      → BreaksOff (sends_call to act w) fault before after → IsMade (next_message w) (called to act w) v before after result
  made_first v before after result fault e b =
      subst (λ (r : Result Made WorldFault). IsMade (next_message w) (called to act w) v before after r) (sym e)
      (breaks_first (sends_call to act w) behind_it fault before after (λ u. acts_grow (next_message w) to act u) b)

  acted : (u : World) → u ≡ (sends_call to act w).world → steps (place_of to) to event u ≡ acts_in (next_message w) to act (sends_call to act w).world
  acted u is = ap (λ (x : World). steps (place_of to) to event x) is ∙ sym (acts_there (next_message w) to act (sends_call to act w).world now same)

  pub made_breaks : (u v : World) (before mid after : List ℕ) (result : Result Made WorldFault) (fault : WorldFault) → result ≡ Err fault
      → u ≡ (sends_call to act w).world → Tells (sends_call to act w).lines before mid → BreaksOff (steps (place_of to) to event u).done fault mid after
      → IsMade (next_message w) (called to act w) v before after result
  made_breaks u v before mid after result fault e is t b =
      subst (λ (r : Result Made WorldFault). IsMade (next_message w) (called to act w) v before after r) (sym e)
      (breaks_later (sends_call to act w) behind_it fault before mid after t
      (subst (λ (x : Stepping). BreaksOff x.done fault mid after) (acted u is) b))

  pub made_ends : (u v : World) (before mid after : List ℕ) (made : Made) (answer : Option (Result StepAnswer NodeFault))
      → u ≡ (sends_call to act w).world → Tells (sends_call to act w).lines before mid → made.message ≡ next_message w → made.said ≡ option_map said_in answer
      → HasCarried (steps (place_of to) to event u) v mid after (Ok answer) → HasMade (next_message w) (called to act w) v before after made
  made_ends u v before mid after made answer is t number said h =
      let there : HasCarried (acts_in (next_message w) to act (sends_call to act w).world) v mid after (Ok answer)
      = subst (λ (x : Stepping). HasCarried x v mid after (Ok answer)) (acted u is) h in
      record {
        message = number;
        said = said ∙ ap (λ o. option_map said_in o) there.0;
        done = does_then (sends_call to act w) behind_it (sends_call to act w).world v before mid after (Ok tt) refl t there.1;
      }

-- ---- nothing comes of its answer but a line

only_grows : (message : ℕ) (o : Option (Result StepAnswer NodeFault)) (w : World) → length w.messages ≤ length (answered_with message answer_only o w).world.messages
only_grows message (Some answer) w = omega arith
only_grows message None w = omega arith

only_lines : (message : ℕ) (o : Option (Result StepAnswer NodeFault)) (w : World) (made : Made) → made.message ≡ message → made.said ≡ option_map said_in o
    → made_lines made ≡ (answered_with message answer_only o w).lines
only_lines message (Some answer) w made number said =
    ap (λ (x : Option Said). elim x as (λ _. List Told) [ Some a ↦ said_lines made.message (is_later a) a | None ↦ [] ]) said
    ∙ ap (λ m. said_lines m (is_later (said_in answer)) (said_in answer)) number
only_lines message None w made number said =
    ap (λ (x : Option Said). elim x as (λ _. List Told) [ Some a ↦ said_lines made.message (is_later a) a | None ↦ [] ]) said

module _ (to : ObjectKey) (act : Act) (w : World) where
  abbrev total : Done
  total = (called to act w).done ▹ answered_with (next_message w) answer_only (called to act w).answer

  whole : (v : World) (before after : List ℕ) (result : Result (Unit {0}) WorldFault) → Does total v before after result
      → Does (calls to act answer_only w) v before after result
  whole v before after result d = subst (λ (x : Done). Does x v before after result) (sym (calls_is to act answer_only w)) d

  pub call_breaks : (v : World) (before after : List ℕ) (result : Result (Unit {0}) WorldFault) (fault : WorldFault) → result ≡ Err fault
      → BreaksOff (called to act w).done fault before after → Does (calls to act answer_only w) v before after result
  call_breaks v before after result fault e b =
      whole v before after result (subst (λ (r : Result (Unit {0}) WorldFault). Does total v before after r) (sym e)
      (breaks_first (called to act w).done (λ u. answered_with (next_message w) answer_only (called to act w).answer u) fault before after
      (λ u. only_grows (next_message w) (called to act w).answer u) b))

  pub call_starves : (v : World) (before mid after : List ℕ) (made : Made) (result : Result (Unit {0}) WorldFault) (fault : WorldFault) → result ≡ Err fault
      → fault ≡ faults.Memory → HasMade (next_message w) (called to act w) v before mid made → after ≡ mid → Does (calls to act answer_only w) v before after result
  call_starves v before mid after made result fault e is h same =
      whole v before after result (subst (λ (r : Result (Unit {0}) WorldFault). Does total v before after r) (sym (e ∙ ap Err is))
      (tells_part_then (called to act w).done.lines (answered_with (next_message w) answer_only (called to act w).answer (called to act w).done.world).lines before mid after
      h.done.1 (part_none (answered_with (next_message w) answer_only (called to act w).answer (called to act w).done.world).lines mid after same)))

  pub call_ends : (v : World) (before mid after : List ℕ) (made : Made) → HasMade (next_message w) (called to act w) v before mid made
      → Tells (made_lines made) mid after → Does (calls to act answer_only w) v before after (Ok tt)
  call_ends v before mid after made h t =
      let told : Tells (answered_with (next_message w) answer_only (called to act w).answer (called to act w).done.world).lines mid after
      = subst (λ ls. Tells ls mid after)
      (only_lines (next_message w) (called to act w).answer (called to act w).done.world made h.message h.said) t in
      whole v before after (Ok tt) (
        h.done.0 ∙ sym (only_world (called to act w).answer),
        tells_then (called to act w).done.lines (answered_with (next_message w) answer_only (called to act w).answer (called to act w).done.world).lines before mid after
            h.done.1 told,
      )
    where
      only_world : (o : Option (Result StepAnswer NodeFault)) → (answered_with (next_message w) answer_only o (called to act w).done.world).world ≡ (called to act w).done.world
      only_world (Some answer) = refl
      only_world None = refl

pub few_stay : (old new : State) → new.seats ≡ old.seats → length old.seats.items ≤ seat_limit → length new.seats.items ≤ seat_limit
few_stay old new same few = let e = ap (λ v. length v.items) same in omega arith
