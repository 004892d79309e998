-- What is known of a world is known once a call has come to a node that answers no word, makes nothing and reads no journal.
use Rattle.std.proofs.Common.{◌≡◌, inl, inr, ℕ, ◌+◌, ◌-◌, Bool, true, false, cond, is_some, IsTrue, List, [], ◌∷◌, ◌++◌, map, append_assoc, append-nil, slice_get, slice_set, zero, suc, Contains, Option, Some, None, refl, sym, ap, subst, ◌∙◌, arith}
use Rattle.std.specs.Prelude.{Ok, if◌then◌else◌}
use Rattle.std.specs.List.{AllByRecursion}
use Rattle.std.specs.Option.{option_and_then}
use Rattle.ior_refs.specs.declared.key.ObjectKey.{ObjectKey}
use Rattle.ots_model.specs.declared.completion.Stood.{Stood}
use Rattle.ots_model.specs.declared.service.RetryKey.{RetryKey}
use Rattle.txn_tree.specs.Rows.{parent}
use Rattle.resource_votes.specs.Ballots.{participants}
use Rattle.resource_votes.specs.declared.registration.Registration.{Registration}
use Rattle.two_phase.specs.Stages.{Standing as Completion, Waiting, Going as UnderWay}
use Rattle.two_phase.specs.declared.party.Party.{Party}
use Rattle.decision_journal.specs.Journal.{Found}
use Rattle.decision_journal.specs.declared.record.JournalRecord.{JournalRecord}
use Rattle.ots_outside.specs.Disk.{DiskState}
use Rattle.coordinator.specs.declared.event.Act.{Act}
use Rattle.coordinator.specs.declared.event.Act.TheVariants as acts
use Rattle.coordinator.specs.declared.event.Event.{Event}
use Rattle.coordinator.specs.declared.node.NodeFault.{NodeFault}
use Rattle.coordinator.specs.declared.node.NodeFault.TheVariants as faults
use Rattle.coordinator.specs.declared.said.Entry.{Entry}
use Rattle.coordinator.specs.declared.said.Said.{Said}
use Rattle.coordinator.specs.Family.{Family}
use Rattle.coordinator.specs.History.{has_room}
use Rattle.coordinator.specs.Node.{Node, family_in, family_of, is_of, only_of, with_family}
use Rattle.coordinator.specs.NodeCalls.{Applied, RetoldAnswer, answer_of, answers_recovered, applied_by, applies, by_records, call_wants, family_for, journaled, records_want, refuses, replies, retold_answer, steps_to, wanted_by}
use Rattle.coordinator.specs.NodeRecords.{record_of, record_says}
use Rattle.coordinator.specs.Step.{Stepped, Wanted, family_step, wanted}
use Rattle.family_laws.specs.Sound.{HasParties}
use Rattle.family_laws.specs.OwnDecisions.{KeepsDecisions, NodesKeepDecisions}
use Rattle.nodes_world.specs.declared.message.Content.TheVariants as contents
use Rattle.nodes_world.specs.declared.message.Message.{Message}
use Rattle.nodes_world.specs.AgreementInside.{Known, HasMessage, edge_at}
use Rattle.nodes_world.specs.AgreementSteps.{StaysKnown, is_asked}
use Rattle.nodes_world.specs.Clients.{call_event}
use Rattle.nodes_world.specs.Disks.{Stop}
use Rattle.nodes_world.specs.Happenings.{Cast, all_effect_lines, all_finished_lines, cast_of, requests_all}
use Rattle.nodes_world.specs.Journals.{Asked, Answers, asks, asks_by, records_on}
use Rattle.nodes_world.specs.Nodes.{Stepping, answer_told, applied_at, cast_by, effects_told, entries_of, no_step, steps, steps_by, steps_node}
use Rattle.nodes_world.specs.Objects.{place_of}
use Rattle.nodes_world.specs.Told.{Told}
use Rattle.nodes_world.specs.World.{World, Seat, OfNode, family_at, node_at, node_in, with_disk, with_seat, with_server}
use Rattle.nodes_world.proofs.Going.{node_up, on_seat_twice}
use Rattle.nodes_world.proofs.KnownFamilies.{family_found, parent_before, parent_within, same_parts, some_of}
use Rattle.nodes_world.proofs.RulesKeep.{ArePartiesOf, IsRegisteredTo, IsTidy, registered_of}
use Rattle.nodes_world.proofs.StepIs.{FamilyLaws, StepIs, entry_cases, steady_is, steady_wants}
use Rattle.nodes_world.proofs.StepSeats as seats
use Rattle.nodes_world.proofs.StepWhole.{words_gone}
use Rattle.nodes_world.proofs.StepsKeep.{is_steady}

-- ---- what such a call asks of the journal

steady_retold : (act : Act) → is_steady act ≡ true → retold_answer act ≡ None
steady_retold (acts.Answer n h) steady = absurd cc
steady_retold _ steady = refl

either_none : (t : Bool) (o : Option Wanted) → o ≡ None → (if t then o else None) ≡ None
either_none true o none = none
either_none false o none = refl

wants_none : (o : Option Family) (e : Event) (n : Node) → retold_answer e.act ≡ None → ((f : Family) → wanted f e ≡ None) → wanted_by o e n ≡ None
wants_none (Some f) e n retold none = either_none (has_room f.entries e) (wanted f e) (none f)
wants_none None e n retold none = ap (λ (o : Option RetoldAnswer). records_want o n) retold

call_wants_none : (key : ObjectKey) (e : Event) (n : Node) → retold_answer e.act ≡ None → ((f : Family) → wanted f e ≡ None) → call_wants key e n ≡ None
unfolding call_wants
call_wants_none key e n retold none = wants_none (family_for key e n) e n retold none

asks_nothing : (o : Option (List JournalRecord)) (service : ℕ) (found : Found) (disk : DiskState) (stop : Option Stop)
    → asks_by None o service found disk stop ≡ Answers None disk stop
asks_nothing (Some rs) service found disk stop = refl
asks_nothing None service found disk stop = refl

pub nothing_asked : (service : ℕ) (found : Found) (disk : DiskState) (stop : Option Stop) → asks None service found disk stop ≡ Answers None disk stop
unfolding asks
nothing_asked service found disk stop = asks_nothing (records_on service disk) service found disk stop

-- so the journal answers nothing, and the disk stays as it is
pub answers_nothing : (key : ObjectKey) (e : Event) (n : Node) (disk : DiskState) (stop : Option Stop) → retold_answer e.act ≡ None
    → ((f : Family) → wanted f e ≡ None) → asks (call_wants key e n) n.service n.found disk stop ≡ Answers None disk stop
answers_nothing key e n disk stop retold none =
    ap (λ (o : Option Wanted). asks o n.service n.found disk stop) (call_wants_none key e n retold none) ∙ nothing_asked n.service n.found disk stop

pub for_key : (key : ObjectKey) (e : Event) (n : Node) → retold_answer e.act ≡ None → family_for key e n ≡ family_of key n
for_key key e n retold = ap (λ (o : Option RetoldAnswer). if is_some o then None else family_of key n) retold

-- ---- the family of a key

of_only : (b : Bool) (g f : Family) → cond b (Some g) None ≡ Some f → IsTrue b × (g ≡ f)
of_only true g f e = (refl, inner e)
  where
    inner : {x y : Family} → Some x ≡ Some y → x ≡ y
    inner e = cc
of_only false g f e = absurd cc

pub key_slot : (key : ObjectKey) (n : Node) (f : Family) → family_of key n ≡ Some f → (family_in n.families key.slot ≡ Some f) × IsTrue (is_of key f)
unfolding family_of
key_slot key n f is =
    let at = some_of (only_of key) (family_in n.families key.slot) f is in
    let only = of_only (is_of key at.0) at.0 f at.2 in
    (at.1 ∙ ap (λ (x : Family). Some x) only.1, subst (λ (x : Family). IsTrue (is_of key x)) only.1 only.0)

pub slot_key : (key : ObjectKey) (n : Node) (g : Family) → family_in n.families key.slot ≡ Some g → IsTrue (is_of key g) → family_of key n ≡ Some g
unfolding family_of
slot_key key n g at of = ap (λ (o : Option Family). option_and_then (only_of key) o) at ∙ ap (λ (b : Bool). cond b (Some g) None) of

-- ---- nothing comes of it

set_same : {A : Type 0} (xs : List A) (i : ℕ) (x : A) → slice_get xs i ≡ Some x → slice_set xs i x ≡ xs
set_same [] i x there = refl
set_same (z ∷ xs) zero x there = ap (λ y. y ∷ xs) (sym (inner there))
  where
    inner : {A : Type 0} {x y : A} → Some x ≡ Some y → x ≡ y
    inner e = cc
set_same (z ∷ xs) (suc i) x there = ap (λ ys. z ∷ ys) (set_same xs i x there)

-- ---- a family that is known is tidy

parties_of : (rs : List Registration) (ps : List Party) (some : List Registration) → map (λ (p : Party). p.to) ps ≡ map (λ (r : Registration). r.to) some
    → AllByRecursion (Contains rs) some → AllByRecursion (λ (p : Party). IsRegisteredTo rs p.to) ps
parties_of rs [] some same all = tt
parties_of rs (p ∷ ps) [] same all = absurd cc
parties_of rs (p ∷ ps) (r ∷ some) same (one, all) = (record { r = r; there = one; leads = sym (head_of same) }, parties_of rs ps some (tail_of same) all)
  where
    head_of : {x y : List ℕ} {xs ys : List (List ℕ)} → x ∷ xs ≡ y ∷ ys → x ≡ y
    head_of e = cc

    tail_of : {x y : List ℕ} {xs ys : List (List ℕ)} → x ∷ xs ≡ y ∷ ys → xs ≡ ys
    tail_of e = cc

are_parties : (rs : List Registration) (c : Completion) (some : List Registration) → HasParties c some → AllByRecursion (Contains rs) some → ArePartiesOf rs c
are_parties rs (Waiting room) some parties all = tt
are_parties rs (UnderWay c) some parties all = parties_of rs c.parties some parties.1 all

pub tidy_of : (w : World) (told : List Told) (k : Known w told) (key : ObjectKey) (f : Family) → family_at w key ≡ Some f → IsTidy f
tidy_of w told k key f found =
    let is = k.families key f found in
    record {
      below = λ b p up. parent_before b (parent f.rows b) p (is.sound.lists.tree.parents b (parent_within f.rows b p up)) up;
      dues = λ b c at. (is.dues b c at, is.legs b c at);
      parties = are_parties f.ballots.registrations f.completion (participants 0 f.ballots) is.sound.completion.parties (registered_of f 0);
      alone = is.unsynchronized;
      few = is.few;
    }

-- ---- such a call

module _ (w : World) (place : ℕ) (s : Seat) (n : Node) (there : slice_get w.seats place ≡ Some s) (up : s.server ≡ OfNode (Some n)) where
  pub node_sound : (told : List Told) (k : Known w told) → KeepsDecisions (edge_at w place) n
  unfolding node_at
  node_sound told k = (k.nodes place n (ap (λ (o : Option Seat). option_and_then (λ (y : Seat). node_in y.server) o) there ∙ ap node_in up)).sound

  -- a node and its disk are put in the place of its own
  abbrev pub put : Node → World
  put m = with_server place (OfNode (Some m)) (with_disk place s.disk s.stop w)

  pub seated : (m : Node) → put m ≡ with_seat place (record s { server = OfNode (Some m) }) w
  seated m = on_seat_twice place (λ (x : Seat). record x { disk = s.disk; stop = s.stop }) (λ (x : Seat). record x { server = OfNode (Some m) }) w s there

  unmoved : put n ≡ w
  unmoved =
      seated n ∙ ap (λ (x : _). with_seat place (record s { server = x }) w) (sym up)
      ∙ ap (λ (xs : List Seat). record w { seats = xs }) (set_same w.seats place s there)

  pub nothing_told : (c : Option Cast) → effects_told w c [] ≡ []
  nothing_told (Some c) = refl
  nothing_told None = refl

  -- the node is as it was, nothing is told, and no word goes out
  abbrev pub Stays : ObjectKey → Event → Applied → Type 0
  Stays key e a = (told : List Told) → Known w told → Known (applied_at place key e n s.disk s.stop a w).done.world (told ++ (applied_at place key e n s.disk s.stop a w).done.lines)

  pub refused_stays : (key : ObjectKey) (e : Event) (fault : NodeFault) → Stays key e (refuses fault n)
  refused_stays key e fault told k = subst (λ (x : World). Known x (told ++ [])) (sym unmoved) (subst (Known w) (sym (append-nil told)) k)

  pub replied_stays : (key : ObjectKey) (e : Event) (o : Option Said) → Stays key e (replies o n)
  replied_stays key e (Some answer) told k =
      subst (λ (x : World). Known x (told ++ (([] ++ (effects_told w (cast_by (family_for key e n) e n) [] ++ [])) ++ []))) (sym unmoved)
      (subst (λ (ls : List Told). Known w (told ++ (([] ++ (ls ++ [])) ++ []))) (sym (nothing_told (cast_by (family_for key e n) e n)))
      (subst (Known w) (sym (append-nil told)) k))
  replied_stays key e None told k = refused_stays key e faults.ObjectNotExist told k

  pub none_journaled : (o : Option Wanted) → o ≡ None → (found : Found) → journaled o None found ≡ found
  none_journaled None is found = refl
  none_journaled (Some wanted) is found = absurd cc

  -- ---- a family goes on

  module _ (laws : FamilyLaws) (nodes : NodesKeepDecisions) (key : ObjectKey) (own_place : place_of key ≡ place) (e : Event) (retold : retold_answer e.act ≡ None)
      (came : (r : RetryKey) → e.key ≡ Some r → HasMessage w r) (f : Family) (none : wanted f e ≡ None) (of : family_of key n ≡ Some f) (told : List Told)
      (k : Known w told) where
    slot : (family_in n.families key.slot ≡ Some f) × IsTrue (is_of key f)
    slot = key_slot key n f of

    parts : (key.service ≡ f.key.service) × (key.life ≡ f.key.life) × (key.slot ≡ f.key.slot) × (key.generation ≡ f.key.generation)
    parts = same_parts key.service key.life key.slot key.generation f.key.service f.key.life f.key.slot f.key.generation slot.1

    pub at_place : place_of f.key ≡ place
    at_place = ap (λ (x : ℕ). x - 1) (sym parts.0) ∙ own_place

    pub slotted : family_in n.families f.key.slot ≡ Some f
    slotted = subst (λ (x : ℕ). family_in n.families x ≡ Some f) parts.2 slot.0

    pub found : family_at w key ≡ Some f
    found = family_found w key f (record { seat = s; node = n; there = ap (slice_get w.seats) own_place ∙ there; up = up; slotted = slot.0; own = slot.1 })

    abbrev pub step : Stepped
    step = family_step f e None

    abbrev pub g : Family
    g = step.family

    pub own_of : IsTrue (is_of key f)
    own_of = slot.1

    pub same_key : g.key ≡ f.key
    same_key = laws.numbers.key f e None

    pub node_now : (steps_to n f e None step).node ≡ with_family g n
    node_now = ap (λ (x : Found). with_family g (record n { found = x })) (none_journaled (wanted f e) none n.found)

    pub sound_now : applies key e None n ≡ steps_to n f e None step → KeepsDecisions (edge_at w place) (with_family g n)
    sound_now same =
        subst (KeepsDecisions (edge_at w place)) (ap (λ (a : Applied). a.node) same ∙ node_now)
        (nodes.called (edge_at w place) (edge_at w place) key e None n (omega arith) (λ item at asked stood. absurd (no stood)) (λ x at called asked stood. absurd (no stood)) (node_sound told k))
      where
        no : {x : Stood} → None ≡ Some x → ⊥
        no e = cc

    pub entries_came : (x : Entry) (r : RetryKey) → Contains g.entries x → x.event.key ≡ Some r → HasMessage w r
    entries_came x r among by = elim (entry_cases laws f e None x among) [
      | inl was ↦ (k.families key f found).came x r was by
      | inr new ↦ came r (ap (λ (y : Event). y.key) (sym new) ∙ by)
    ]

    -- the family that it is for then
    pub for_now : family_for key e (steps_to n f e None step).node ≡ Some g
    for_now =
        for_key key e (steps_to n f e None step).node retold
        ∙ ap (family_of key) node_now
        ∙ slot_key key (with_family g n) g
        (ap (family_in (with_family g n).families) (parts.2 ∙ ap (λ (x : ObjectKey). x.slot) (sym same_key)) ∙ seats.in_own_slot n f g same_key slotted)
        (subst (λ (x : ObjectKey). IsTrue (is_of key (record g { key = x }))) (sym same_key) slot.1)

    abbrev pub lines : List Told
    lines = all_effect_lines w (cast_of g) step.effects ++ all_finished_lines g.entries step.finished

    pub lines_now : answer_told w (cast_by (family_for key e (steps_to n f e None step).node) e n) (entries_of (family_for key e (steps_to n f e None step).node))
        (Ok (answer_of f step)) ≡ lines
    lines_now = ap (λ (o : Option Family). answer_told w (cast_by o e n) (entries_of o) (Ok (answer_of f step))) for_now

    pub step_stays : StepIs w f g step.effects step.words → applies key e None n ≡ steps_to n f e None step
        → Known (applied_at place key e n s.disk s.stop (steps_to n f e None step) w).done.world (told ++ (applied_at place key e n s.disk s.stop (steps_to n f e None step) w).done.lines)
    step_stays stepped same =
        let v = seats.v w place s n f g there up stepped.key slotted at_place in
        let world : put (steps_to n f e None step).node ≡ v = ap put node_now ∙ seated (with_family g n) in
        let gone = words_gone w place s n f g there up slotted at_place told k key found (cast_of g) (record { key = stepped.key; registrations = stepped.registrations }) step.effects step.words stepped g.entries step.finished (sound_now same) entries_came in
        let here : Known (requests_all place step.words v).world (told ++ (([] ++ lines) ++ (requests_all place step.words v).lines)) =
        subst (Known (requests_all place step.words v).world) (append_assoc told lines (requests_all place step.words v).lines) gone in
        subst (λ (x : World). Known (requests_all place step.words x).world (told ++ (([] ++ answer_told w (cast_by (family_for key e (steps_to n f e None step).node) e n) (entries_of (family_for key e (steps_to n f e None step).node)) (Ok (answer_of f step))) ++ (requests_all place step.words x).lines)))
        (sym world)
        (subst (λ (ls : List Told). Known (requests_all place step.words v).world (told ++ (([] ++ ls) ++ (requests_all place step.words v).lines))) (sym lines_now) here)

  -- ---- any such call

  if_room : (key : ObjectKey) (e : Event) (f : Family) (b : Bool) → (b ≡ true → Stays key e (steps_to n f e None (family_step f e None)))
      → Stays key e (if b then steps_to n f e None (family_step f e None) else refuses faults.NoResources n)
  if_room key e f true goes = goes refl
  if_room key e f false goes = refused_stays key e faults.NoResources

  stays_by : (laws : FamilyLaws) (nodes : NodesKeepDecisions) (key : ObjectKey) (own_place : place_of key ≡ place) (e : Event) (steady : is_steady e.act ≡ true)
      (came : (r : RetryKey) → e.key ≡ Some r → HasMessage w r) (f : Family) (of : family_of key n ≡ Some f) (told : List Told) (k : Known w told)
      → applies key e None n ≡ steps_to n f e None (family_step f e None)
      → Known (applied_at place key e n s.disk s.stop (steps_to n f e None (family_step f e None)) w).done.world (told ++ (applied_at place key e n s.disk s.stop (steps_to n f e None (family_step f e None)) w).done.lines)
  stays_by laws nodes key own_place e steady came f of told k same =
      let retold = steady_retold e.act steady in
      let none = steady_wants f e steady in
      let there_f = found laws nodes key own_place e retold came f none of told k in
      step_stays laws nodes key own_place e retold came f none of told k
      (steady_is laws f e None steady (k.families key f there_f).sound (tidy_of w told k key f there_f) (k.families key f there_f).ready) same

  called_by : (laws : FamilyLaws) (nodes : NodesKeepDecisions) (key : ObjectKey) → place_of key ≡ place → (e : Event) → is_steady e.act ≡ true → ((r : RetryKey) → e.key ≡ Some r → HasMessage w r) → (o : Option Family)
      → family_for key e n ≡ o → Stays key e (applied_by o key e None n)
  unfolding applies answers_recovered
  called_by laws nodes key own_place e steady came (Some f) is = if_room key e f (has_room f.entries e)
      (λ room told k. stays_by laws nodes key own_place e steady came f (sym (for_key key e n (steady_retold e.act steady)) ∙ is) told k
      (ap (λ (o : Option Family). applied_by o key e None n) is
      ∙ ap (λ (b : Bool). if b then steps_to n f e None (family_step f e None) else refuses faults.NoResources n) room))
  called_by laws nodes key own_place e steady came None is =
      subst (λ (o : Option RetoldAnswer). Stays key e (by_records o key e None n)) (sym (steady_retold e.act steady))
      (replied_stays key e (option_and_then (record_says key e.key e.act) (record_of key n)))

  call_stays : (laws : FamilyLaws) (nodes : NodesKeepDecisions) (key : ObjectKey) → place_of key ≡ place → (e : Event) → is_steady e.act ≡ true
      → ((r : RetryKey) → e.key ≡ Some r → HasMessage w r) → Stays key e (applies key e None n)
  unfolding applies
  call_stays laws nodes key own_place e steady came = called_by laws nodes key own_place e steady came (family_for key e n) refl

  node_called : (laws : FamilyLaws) (nodes : NodesKeepDecisions) (key : ObjectKey) → place_of key ≡ place → (e : Event) → is_steady e.act ≡ true
      → ((r : RetryKey) → e.key ≡ Some r → HasMessage w r) → StaysKnown w (steps_node (Some n) s place key e w).done
  node_called laws nodes key own_place e steady came =
      subst (λ (a : Asked). StaysKnown w (steps_by a place key e n w).done)
      (sym (answers_nothing key e n s.disk s.stop (steady_retold e.act steady) (λ f. steady_wants f e steady)))
      (call_stays laws nodes key own_place e steady came)

-- what is known is known once such an event has come to a node
pub steady_known : (laws : FamilyLaws) (nodes : NodesKeepDecisions) (w : World) (place : ℕ) (key : ObjectKey) → place_of key ≡ place → (e : Event)
    → is_steady e.act ≡ true → ((r : RetryKey) → e.key ≡ Some r → HasMessage w r) → StaysKnown w (steps place key e w).done
unfolding steps
steady_known laws nodes w place key own_place e steady came = by (slice_get w.seats place) refl
  where
    nothing_known : StaysKnown w (no_step w).done
    nothing_known told k = subst (Known w) (sym (append-nil told)) k

    at_node : (s : Seat) → slice_get w.seats place ≡ Some s → (o : Option Node) → node_in s.server ≡ o → StaysKnown w (steps_node o s place key e w).done
    at_node s there (Some n) is = node_called w place s n there (node_up s.server n is) laws nodes key own_place e steady came
    at_node s there None is = nothing_known

    by : (o : Option Seat) → slice_get w.seats place ≡ o
        → StaysKnown w (elim o as (λ _. Stepping) [ Some s ↦ steps_node (node_in s.server) s place key e w | None ↦ no_step w ]).done
    by (Some s) there = at_node s there (node_in s.server) refl
    by None there = nothing_known

asked_steady : (act : Act) → is_asked act ≡ true → is_steady act ≡ true
asked_steady acts.CreateSubtransaction is = is
asked_steady (acts.RegisterResource to aware) is = is
asked_steady (acts.RegisterSynchronization to) is = is
asked_steady (acts.RegisterSubtranAware to) is = is
asked_steady (acts.Answer n h) is = is
asked_steady (acts.Reread stands) is = is
asked_steady _ is = refl

-- a client's call that makes nothing keeps what is known
pub known_call : (laws : FamilyLaws) (nodes : NodesKeepDecisions) (w : World) (nth now : ℕ) (to : ObjectKey) (act : Act) (m : Message) → slice_get w.messages nth ≡ Some m
    → m.content ≡ contents.Call to act → is_asked act ≡ true → StaysKnown w (steps (place_of to) to (call_event (nth + 1) to act now) w).done
known_call laws nodes w nth now to act m at says asked told k = steady_known laws nodes w (place_of to) to refl (call_event (nth + 1) to act now) (asked_steady act asked)
    (λ r by. (nth, m, at, sym (ap (λ (x : RetryKey). x.number) (inner by)), (k.seats.calls nth m to act at says).1, sym (ap (λ (x : RetryKey). x.client) (inner by)))) told k
  where
    inner : {x y : RetryKey} → Some x ≡ Some y → x ≡ y
    inner e = cc
