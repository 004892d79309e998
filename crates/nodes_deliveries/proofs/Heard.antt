-- A reply that is heard, and one that isn't.
use Rattle.std.proofs.Common.{◌≡◌, ℕ, ◌-◌, Bool, true, false, List, slice_get, slice_set, Option, Some, None, Result, Ok, if◌then◌else◌, refl, sym, ap, subst, ◌∙◌}
use Rattle.std.specs.Option.{option_map, option_and_then}
use Rattle.ior_refs.specs.declared.key.ObjectKey.{ObjectKey}
use Rattle.ots_model.specs.declared.completion.CallNumber.{CallNumber}
use Rattle.ots_model.specs.declared.tree.Heard.{Heard}
use Rattle.ots_model.specs.declared.tree.Outward.{Outward}
use Rattle.ots_world.specs.declared.fault.WorldFault.{WorldFault}
use Rattle.coordinator.specs.declared.event.Act.TheVariants as acts
use Rattle.coordinator.specs.declared.event.Event.{Event}
use Rattle.coordinator.specs.declared.said.Said.{Said}
use Rattle.nodes_world.specs.declared.message.Content.{Content}
use Rattle.nodes_world.specs.declared.message.Content.TheVariants as contents
use Rattle.nodes_world.specs.declared.message.Message.{Message}
use Rattle.nodes_world.specs.Deliveries.{answer_event, heard_in, hears_answer, hears_if, hears_of, hears_reply, is_waited_for}
use Rattle.nodes_world.specs.Happenings.{Done, changes, nothing}
use Rattle.nodes_world.specs.Nodes.{steps}
use Rattle.nodes_world.specs.Objects.{family_key}
use Rattle.nodes_world.specs.World.{Seat, World, message_numbered, with_message}
use Rattle.nodes_parts.specs.Sending.{marked_answered}
use Rattle.nodes_state.specs.Does.{Does}
use Rattle.nodes_state.specs.Shown.{shown}
use Rattle.nodes_state.specs.declared.state.State.{State}
use Rattle.nodes_state.proofs.Doing.{does_then, tells_none}
use Rattle.nodes_deliveries.specs.Arriving.{waits_for, waits_in}
use Rattle.nodes_ready.proofs.Growing.{KeepsCalls, calls_stay, one_marked}

pub does_as_nothing : (d : Done) (w : World) (lines : List ℕ) → d ≡ nothing w → Does d w lines lines (Ok tt)
does_as_nothing d w lines e = subst (λ (x : Done). Does x w lines lines (Ok tt)) (sym e) (refl, tells_none lines)

-- who waits for it, where it is waited for
abbrev waiter : ℕ → CallNumber → Bool → Option (ℕ × CallNumber)
waiter from number waited = if waited then Some (from, number) else None

-- ---- nobody waits for it

pub unheard : (w : World) (request : ℕ) (answer : Said) → waits_for w request ≡ None → hears_reply request answer w ≡ nothing w
unfolding hears_reply
unheard w request answer none = by_message (message_numbered w request) none
  where
    by_test : (m : Message) (from : ℕ) (o : Outward) (b : Bool) → waiter from o.number b ≡ None
        → hears_if b (request - 1) m from o answer w ≡ nothing w
    by_test m from o true e = absurd cc
    by_test m from o false e = refl

    by_content : (m : Message) (c : Content) → waits_in w m c ≡ None → hears_of (request - 1) m c answer w ≡ nothing w
    by_content m (contents.Call to act) e = refl
    by_content m (contents.Request from o) e = by_test m from o (is_waited_for w m from o) e
    by_content m (contents.Reply other said) e = refl

    by_message : (o : Option Message) → option_and_then (λ (m : Message). waits_in w m m.content) o ≡ None
        → (elim o as (λ _. Done) [ Some m ↦ hears_of (request - 1) m m.content answer w | None ↦ nothing w ]) ≡ nothing w
    by_message (Some m) e = by_content m m.content e
    by_message None e = refl

-- ---- the seat at a place waits for it

pub record Waits (w : World) (request from : ℕ) (number : CallNumber) : Type 0 where
  pub message : Message
  pub outward : Outward
  pub there : message_numbered w request ≡ Some message
  pub says : message.content ≡ contents.Request from outward
  pub numbered : outward.number ≡ number
  pub waited : is_waited_for w message from outward ≡ true

pub waits : (w : World) (request from : ℕ) (number : CallNumber) → waits_for w request ≡ Some (from, number) → Waits w request from number
waits w request from number some = by_message (message_numbered w request) refl some
  where
    by_test : (m : Message) (place : ℕ) (o : Outward) → message_numbered w request ≡ Some m → m.content ≡ contents.Request place o
        → (b : Bool) → is_waited_for w m place o ≡ b → waiter place o.number b ≡ Some (from, number) → Waits w request from number
    by_test m place o there says true waited e =
        let seats : Some place ≡ Some from = ap (λ (x : Option (ℕ × CallNumber)). option_map (λ (p : ℕ × CallNumber). p.0) x) e in
        let numbers : Some o.number ≡ Some number = ap (λ (x : Option (ℕ × CallNumber)). option_map (λ (p : ℕ × CallNumber). p.1) x) e in
        let seat : place ≡ from = cc in
        record {
          message = m;
          outward = o;
          there = there;
          says = says ∙ ap (λ p. contents.Request p o) seat;
          numbered = cc;
          waited = subst (λ p. is_waited_for w m p o ≡ true) seat waited;
        }
    by_test m place o there says false waited e = absurd cc

    by_content : (m : Message) → message_numbered w request ≡ Some m → (c : Content) → m.content ≡ c → waits_in w m c ≡ Some (from, number)
        → Waits w request from number
    by_content m there (contents.Call to act) says e = absurd cc
    by_content m there (contents.Request place o) says e = by_test m place o there says (is_waited_for w m place o) refl e
    by_content m there (contents.Reply other said) says e = absurd cc

    by_message : (o : Option Message) → message_numbered w request ≡ o → option_and_then (λ (m : Message). waits_in w m m.content) o ≡ Some (from, number)
        → Waits w request from number
    by_message (Some m) there e = by_content m there m.content refl e
    by_message None there e = absurd cc

module _ (w : World) (request from : ℕ) (number : CallNumber) (answer : Said) (h : Waits w request from number) where
  hears_waited : hears_reply request answer w ≡ hears_if true (request - 1) h.message from h.outward answer w
  unfolding hears_reply
  hears_waited =
      ap (λ (o : Option Message). elim o as (λ _. Done) [ Some m ↦ hears_of (request - 1) m m.content answer w | None ↦ nothing w ]) h.there
      ∙ ap (λ (c : Content). hears_of (request - 1) h.message c answer w) h.says
      ∙ ap (λ b. hears_if b (request - 1) h.message from h.outward answer w) h.waited

  pub unseated : slice_get w.seats from ≡ None → hears_reply request answer w ≡ nothing w
  unseated none =
      hears_waited
      ∙ ap (λ (o : Option Seat). elim o as (λ _. Done) [ Some s ↦ hears_answer (request - 1) h.message from h.outward answer s w | None ↦ nothing w ]) none

  hears_seated : (s : Seat) → slice_get w.seats from ≡ Some s
      → hears_reply request answer w ≡ hears_answer (request - 1) h.message from h.outward answer s w
  hears_seated s there =
      hears_waited
      ∙ ap (λ (o : Option Seat). elim o as (λ _. Done) [ Some x ↦ hears_answer (request - 1) h.message from h.outward answer x w | None ↦ nothing w ]) there

abbrev pub heard_event : CallNumber → Heard → ℕ → Event
heard_event number heard now = record { key = None; branch = 0; now = now; act = acts.Answer number heard }

marked : (messages : List Message) (place : ℕ) (m : Message) → slice_get messages place ≡ Some m
    → marked_answered place messages ≡ slice_set messages place (record m { answered = true })
marked messages place m there =
    ap (λ (o : Option Message). elim o as (λ _. List Message) [ Some x ↦ slice_set messages place (record x { answered = true }) | None ↦ messages ]) there

pub answered_keeps : (messages : List Message) (place : ℕ) → KeepsCalls messages (marked_answered place messages)
answered_keeps messages place = by_message (slice_get messages place) refl
  where
    by_message : (o : Option Message) → slice_get messages place ≡ o
        → KeepsCalls messages (elim o as (λ _. List Message) [ Some x ↦ slice_set messages place (record x { answered = true }) | None ↦ messages ])
    by_message (Some m) there = one_marked messages place m (record m { answered = true }) there refl
    by_message None there = calls_stay messages

-- where its seat stands, and its clock
pub clock_seat : (o : Option Seat) (now : ℕ) → option_map (λ (s : Seat). s.clock) o ≡ Some now → (s : Seat) × (o ≡ Some s) × (s.clock ≡ now)
clock_seat (Some s) now e = (s, refl, cc)
clock_seat None now e = absurd cc

pub no_clock : (o : Option Seat) → option_map (λ (s : Seat). s.clock) o ≡ None → o ≡ None
no_clock (Some s) e = absurd cc
no_clock None e = refl

pub reply_heard : (s : State) (now : List Message) (request from clock : ℕ) (number : CallNumber) (key : ObjectKey) (answer : Said) (heard : Heard) (w : World)
    (before after : List ℕ) (result : Result (Unit {0}) WorldFault) → waits_for (shown s) request ≡ Some (from, number)
    → option_map (λ (x : Seat). x.clock) (slice_get (shown s).seats from) ≡ Some clock → heard_in answer ≡ heard
    → now ≡ marked_answered (request - 1) s.messages → key ≡ family_key from number
    → Does (steps from key (heard_event number heard clock) (shown (record s { messages = now }))).done w before after result
    → Does (hears_reply request answer (shown s)) w before after result
reply_heard s now request from clock number key answer heard w before after result waiting at is later keyed does =
    let h = waits (shown s) request from number waiting in
    let seat = clock_seat (slice_get (shown s).seats from) clock at in
    let v : World = shown (record s { messages = now }) in
    let x : World = with_message (request - 1) (record h.message { answered = true }) (shown s) in
    let world : v ≡ x = ap (λ (ms : List Message). record (shown s) { messages = ms }) (later ∙ marked s.messages (request - 1) h.message h.there) in
    let same_key : key ≡ family_key from h.outward.number = keyed ∙ ap (λ n. family_key from n) (sym h.numbered) in
    let event : heard_event number heard clock ≡ answer_event h.outward answer seat.0.clock =
    ap (λ n. heard_event n heard clock) (sym h.numbered)
    ∙ ap (λ r. heard_event h.outward.number r clock) (sym is)
    ∙ ap (λ t. heard_event h.outward.number (heard_in answer) t) (sym seat.2) in
    subst (λ (d : Done). Does d w before after result) (sym (hears_seated (shown s) request from number answer h seat.0 seat.1))
    (does_then (changes x) (λ (y : World). (steps from (family_key from h.outward.number) (answer_event h.outward answer seat.0.clock) y).done)
    v w before before after result world (tells_none before)
    (subst (λ (e : Event). Does (steps from (family_key from h.outward.number) e v).done w before after result) event
    (subst (λ (k : ObjectKey). Does (steps from k (heard_event number heard clock) v).done w before after result) same_key does)))
