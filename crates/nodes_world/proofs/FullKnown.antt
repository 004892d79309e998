-- What is known of a world is known once a node has heard the last vote of a family, and its journal had no room for the decision.
use Rattle.std.proofs.Common.{◌≡◌, inl, inr, ℕ, ◌+◌, ◌==◌, Bool, true, false, nat_le, length, if◌then◌else◌, ◌⊎◌, IsTrue, List, [], ◌++◌, append_assoc, slice_get, Contains, Option, Some, None, refl, sym, ap, subst, ◌∙◌, arith}
use Rattle.std.specs.Prelude.{Ok}
use Rattle.ior_refs.specs.declared.key.ObjectKey.{ObjectKey}
use Rattle.ots_model.specs.declared.completion.Stood.{Stood}
use Rattle.ots_model.specs.declared.completion.Stood.TheVariants as answers
use Rattle.ots_model.specs.declared.service.RetryKey.{RetryKey}
use Rattle.ots_model.specs.declared.tree.Outward.{Outward}
use Rattle.decision_journal.specs.Journal.{Found, front}
use Rattle.decision_journal.specs.State.{need, used}
use Rattle.decision_journal.specs.declared.record.JournalRecord.{JournalRecord}
use Rattle.ots_outside.specs.Disk.{DiskState}
use Rattle.recovery_coord.specs.Limits.{retold_slot}
use Rattle.coordinator.specs.declared.event.Event.{Event}
use Rattle.coordinator.specs.declared.said.Entry.{Entry}
use Rattle.coordinator.specs.declared.said.Said.{Said}
use Rattle.coordinator.specs.Family.{Family}
use Rattle.coordinator.specs.History.{has_room}
use Rattle.coordinator.specs.Node.{Node, family_in, family_of, is_of, with_family}
use Rattle.coordinator.specs.NodeCalls.{Applied, answer_of, applies, family_for, journaled, steps_to}
use Rattle.coordinator.specs.Step.{Stepped, Wanted, Appends, family_step, wanted}
use Rattle.family_laws.specs.OwnDecisions.{KeepsDecisions, NodesKeepDecisions}
use Rattle.nodes_world.specs.AgreementInside.{Known, HasMessage, edge_at}
use Rattle.nodes_world.specs.Deliveries.{answer_event}
use Rattle.nodes_world.specs.Disks.{Stop, Struck, Whole, Broken, strikes}
use Rattle.nodes_world.specs.Limits.{area_limit}
use Rattle.nodes_world.specs.Happenings.{all_effect_lines, all_finished_lines, cast_of, requests_all}
use Rattle.nodes_world.specs.Journals.{Asked, Answers, Stops, append_strokes, answered_by, asks, asks_by, records_on}
use Rattle.nodes_world.specs.Nodes.{answer_told, applied_at, cast_by, entries_of, steps_by, steps_node}
use Rattle.nodes_world.specs.Objects.{family_key}
use Rattle.nodes_world.specs.Told.{Told}
use Rattle.nodes_world.specs.World.{World, Seat, OfNode}
use Rattle.nodes_world.proofs.CallKnown as call
use Rattle.nodes_world.proofs.CallKnown.{for_key, slot_key}
use Rattle.nodes_world.proofs.ComesTo.{ComesTo, comes_to}
use Rattle.nodes_world.proofs.StepIs.{FamilyLaws, StepIs, entry_cases}
use Rattle.nodes_world.proofs.StepSeats as seats
use Rattle.nodes_world.proofs.StepWhole.{words_gone}

-- ---- what the journal answers

-- it writes what it is asked for: it tells that the record stands, or the node goes down meanwhile
abbrev pub IsWritten : Asked → Type 0
IsWritten (Answers (Some (answers.Stands place)) disk stop) = Unit {0}
IsWritten (Stops image) = Unit {0}
IsWritten _ = ⊥

struck_written : (x : Struck) (place : ℕ) → IsWritten (answered_by (answers.Stands place) x)
struck_written (Whole disk stop) place = tt
struck_written (Broken image) place = tt

abbrev AsksFull : Asked → DiskState → Option Stop → Type 0
AsksFull a disk stop = (so_much too_much : ℕ) × (a ≡ Answers (Some (answers.Full so_much too_much)) disk stop)

-- a journal that is asked for a decision writes it, or has no room
pub asked_cases : (item : JournalRecord) (service : ℕ) (rs : List JournalRecord) (found : Found) (disk : DiskState) (stop : Option Stop) → records_on service disk ≡ Some rs
    → IsWritten (asks (Some (Appends item)) service found disk stop) ⊎ AsksFull (asks (Some (Appends item)) service found disk stop) disk stop
unfolding asks
asked_cases item service rs found disk stop held =
    subst (λ (x : Option (List JournalRecord)). IsWritten (asks_by (Some (Appends item)) x service found disk stop) ⊎ AsksFull (asks_by (Some (Appends item)) x service found disk stop) disk stop)
    (sym held) (by (nat_le (journal_used + need area_limit found item) area_limit))
  where
    octets : List ℕ
    octets = front service rs

    journal_used : ℕ
    journal_used = used octets found

    either : Bool → Asked
    either t = if t then answered_by (answers.Stands (length octets)) (strikes (append_strokes (length octets) item) disk stop)
        else Answers (Some (answers.Full journal_used (need area_limit found item))) disk stop

    by : (t : Bool) → IsWritten (either t) ⊎ AsksFull (either t) disk stop
    by true = inl (struck_written (strikes (append_strokes (length octets) item) disk stop) (length octets))
    by false = inr (journal_used, need area_limit found item, refl)

-- ---- it has no room

module _ (laws : FamilyLaws) (nodes : NodesKeepDecisions) (w : World) (place now : ℕ) (o : Outward) (answer : Said) (s : Seat) (n : Node) (f : Family) (item : JournalRecord)
    (so_much too_much : ℕ) (there : slice_get w.seats place ≡ Some s) (up : s.server ≡ OfNode (Some n)) (family : o.number.slot == retold_slot ≡ false)
    (of : family_of (family_key place o.number) n ≡ Some f) (room : has_room f.entries (answer_event o answer now) ≡ true)
    (wants : wanted f (answer_event o answer now) ≡ Some (Appends item)) (told : List Told) (k : Known w told)
    (asked : asks (Some (Appends item)) n.service n.found s.disk s.stop ≡ Answers (Some (answers.Full so_much too_much)) s.disk s.stop)
    (stepped : StepIs w f (family_step f (answer_event o answer now) (Some (answers.Full so_much too_much))).family
    (family_step f (answer_event o answer now) (Some (answers.Full so_much too_much))).effects
    (family_step f (answer_event o answer now) (Some (answers.Full so_much too_much))).words) where
  abbrev key : ObjectKey
  key = family_key place o.number

  abbrev e : Event
  e = answer_event o answer now

  abbrev stood : Option Stood
  stood = Some (answers.Full so_much too_much)

  abbrev step : Stepped
  step = family_step f e stood

  abbrev g : Family
  g = step.family

  comes : ComesTo w place now o answer s n f (Appends item)
  comes = comes_to w place now o answer s n f (Appends item) there up family of room wants told k

  node_now : (steps_to n f e stood step).node ≡ with_family g n
  node_now = ap (λ (x : Option Wanted). with_family g (record n { found = journaled x stood n.found })) wants

  sound_now : KeepsDecisions (edge_at w place) (with_family g n)
  sound_now =
      subst (KeepsDecisions (edge_at w place)) (ap (λ (a : Applied). a.node) (comes.applied stood) ∙ node_now)
      (nodes.called (edge_at w place) (edge_at w place) key e stood n (omega arith) (λ other at is so. absurd (not_standing so))
      (λ x at called is so. absurd (not_standing so)) comes.sound)
    where
      not_standing : {at : ℕ} → stood ≡ Some (answers.Stands at) → ⊥
      not_standing is = cc

  entries_came : (x : Entry) (r : RetryKey) → Contains g.entries x → x.event.key ≡ Some r → HasMessage w r
  entries_came x r among by = elim (entry_cases laws f e stood x among) [
    | inl was ↦ (k.families key f comes.there).came x r was by
    | inr new ↦ absurd (no (ap (λ (y : Event). y.key) (sym new) ∙ by))
  ]
    where
      no : None ≡ Some r → ⊥
      no is = cc

  for_now : family_for key e (steps_to n f e stood step).node ≡ Some g
  for_now =
      for_key key e (steps_to n f e stood step).node comes.retold
      ∙ ap (family_of key) node_now
      ∙ slot_key key (with_family g n) g
      (ap (family_in (with_family g n).families) (comes.same_slot ∙ ap (λ (x : ObjectKey). x.slot) (sym stepped.key)) ∙ seats.in_own_slot n f g stepped.key comes.slotted)
      (subst (λ (x : ObjectKey). IsTrue (is_of key (record g { key = x }))) (sym stepped.key) comes.slot.1)

  abbrev lines : List Told
  lines = all_effect_lines w (cast_of g) step.effects ++ all_finished_lines g.entries step.finished

  abbrev said_lines : List Told
  said_lines = answer_told w (cast_by (family_for key e (steps_to n f e stood step).node) e n) (entries_of (family_for key e (steps_to n f e stood step).node)) (Ok (answer_of f step))

  lines_now : said_lines ≡ lines
  lines_now = ap (λ (x : Option Family). answer_told w (cast_by x e n) (entries_of x) (Ok (answer_of f step))) for_now

  abbrev v : World
  v = seats.v w place s n f g there up stepped.key comes.slotted comes.at_place

  world_now : call.put w place s n there up (steps_to n f e stood step).node ≡ v
  world_now = ap (call.put w place s n there up) node_now ∙ call.seated w place s n there up (with_family g n)

  full_applied : Known (applied_at place key e n s.disk s.stop (applies key e stood n) w).done.world (told ++ (applied_at place key e n s.disk s.stop (applies key e stood n) w).done.lines)
  full_applied =
      let gone = words_gone w place s n f g there up comes.slotted comes.at_place told k key comes.there (cast_of g) (record { key = stepped.key; registrations = stepped.registrations })
      step.effects step.words stepped g.entries step.finished sound_now entries_came in
      let here : Known (requests_all place step.words v).world (told ++ (([] ++ lines) ++ (requests_all place step.words v).lines)) =
      subst (Known (requests_all place step.words v).world) (append_assoc told lines (requests_all place step.words v).lines) gone in
      subst (λ (a : Applied). Known (applied_at place key e n s.disk s.stop a w).done.world (told ++ (applied_at place key e n s.disk s.stop a w).done.lines)) (sym (comes.applied stood))
      (subst (λ (x : World). Known (requests_all place step.words x).world (told ++ (([] ++ said_lines) ++ (requests_all place step.words x).lines))) (sym world_now)
      (subst (λ (ls : List Told). Known (requests_all place step.words v).world (told ++ (([] ++ ls) ++ (requests_all place step.words v).lines))) (sym lines_now) here))

  pub full_known : Known (steps_node (Some n) s place key e w).done.world (told ++ (steps_node (Some n) s place key e w).done.lines)
  full_known =
      subst (λ (a : Asked). Known (steps_by a place key e n w).done.world (told ++ (steps_by a place key e n w).done.lines))
      (sym (ap (λ (x : Option Wanted). asks x n.service n.found s.disk s.stop) comes.wants ∙ asked)) full_applied
