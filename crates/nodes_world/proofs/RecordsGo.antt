-- The records that a disk holds then are those of before, or a life behind them, or what a node asked for that heard an answer.
use Rattle.std.proofs.Common.{◌≡◌, ◌⊎◌, inl, inr, ℕ, ◌+◌, ◌-◌, true, false, List, [], ◌∷◌, ◌++◌, slice_get, Option, Some, None, refl, sym, ap, subst, ◌∙◌, arith}
use Rattle.std.specs.Option.{option_and_then}
use Rattle.ots_model.specs.declared.tree.Outward.{Outward}
use Rattle.decision_journal.specs.Growing.{JournalsGrow}
use Rattle.decision_journal.specs.Journal.{Holds, StandsFor, found_in}
use Rattle.decision_journal.specs.Laws.{IsSettled}
use Rattle.decision_journal.specs.Loading.{LoadsAreSafe, loaded, next_life}
use Rattle.decision_journal.specs.declared.record.JournalRecord.{JournalRecord}
use Rattle.decision_journal.specs.declared.record.JournalRecord.TheVariants.{Life}
use Rattle.coordinator.specs.Node.{Node, load}
use Rattle.coordinator.specs.NodeCalls.{call_wants}
use Rattle.coordinator.specs.declared.event.Event.{Event}
use Rattle.coordinator.specs.declared.said.Said.{Said}
use Rattle.ior_refs.specs.declared.key.ObjectKey.{ObjectKey}
use Rattle.nodes_world.specs.declared.message.Content.TheVariants as contents
use Rattle.nodes_world.specs.declared.message.Message.{Message}
use Rattle.nodes_world.specs.Agreement.{IsWord, records_at}
use Rattle.nodes_world.specs.AgreementInside.{Known}
use Rattle.nodes_world.specs.AgreementSteps.{Goes, by_alike, by_begin, by_call, by_calling, by_crash, by_end, by_hearing, by_load, by_node, by_receipt, by_register, by_sub, by_tick, by_touch, by_word}
use Rattle.nodes_world.specs.Clients.{call_event}
use Rattle.nodes_world.specs.Deliveries.{answer_event, hears_answer, is_waited_for}
use Rattle.nodes_world.specs.Happenings.{Done, client_message}
use Rattle.nodes_world.specs.Journals.{records_in, records_on}
use Rattle.nodes_world.specs.Laws.{AreWanted, AskedJournalsKeep, AskedJournalsStop, RecordsAreRead}
use Rattle.nodes_world.specs.Lives.{loads}
use Rattle.nodes_world.specs.Nodes.{Stepping, no_step, steps, steps_node}
use Rattle.nodes_world.specs.Objects.{family_key, place_of, service_at}
use Rattle.nodes_world.specs.Step.{lacks_life}
use Rattle.nodes_world.specs.Told.{Told}
use Rattle.nodes_world.specs.World.{World, Seat, OfNode, node_at, node_in, with_message, with_seat}
use Rattle.nodes_world.proofs.Deeds.{some_of}
use Rattle.nodes_world.proofs.DisksGoOn.{alike_same, begin_same, crash_same, made_end_same, register_same, seated_same, sub_same}
use Rattle.nodes_world.proofs.DisksSame.{DisksSame, obeys_same, quiet_call, resource_same, same_self, sent_same, steps_same, ticks_same}
use Rattle.nodes_world.proofs.Going.{node_up, on_seat_twice}
use Rattle.nodes_world.proofs.HearingsAsk.{node_records}
use Rattle.nodes_world.proofs.HearingsMay.{KnownMayAsk}
use Rattle.nodes_world.proofs.KnownLoad.{held_as}
use Rattle.nodes_world.proofs.KnownSeats.{set_at}
use Rattle.nodes_world.proofs.KnownWorlds.{node_there}
use Rattle.nodes_world.proofs.LoadedDisks.{load_leaves}
use Rattle.nodes_world.proofs.LoadedLives.{life_fits}
use Rattle.nodes_world.proofs.MessagesGo.{HasContent}

-- where the records of a disk come from
pub data RecordsCome (w : World) (place : ℕ) (rs : List JournalRecord) : Type 0 where
  as_before : records_at w place ≡ Some rs → RecordsCome w place rs
  -- its disk is a new one
  on_new : records_in (service_at place) [] ≡ Some rs → RecordsCome w place rs
  with_life : (was : List JournalRecord) (life : ℕ) → records_at w place ≡ Some was → rs ≡ was ++ Life life ∷ [] → RecordsCome w place rs
  -- a node has heard the answer to a word, and has asked its journal
  with_asked : (was behind : List JournalRecord) (n : Node) (nth reply now : ℕ) (o : Outward) (answer : Said) → records_at w place ≡ Some was
      → node_at w place ≡ Some n → IsWord w nth place o → HasContent w reply (contents.Reply (nth + 1) answer)
      → AreWanted (call_wants (family_key place o.number) (answer_event o answer now) n) behind → rs ≡ was ++ behind → RecordsCome w place rs

abbrev pub RecordsGo : World → World → Type 0
RecordsGo w v = (place : ℕ) (rs : List JournalRecord) → records_at v place ≡ Some rs → RecordsCome w place rs

inner : {A : Type 0} {x y : A} → Some x ≡ Some y → x ≡ y
inner e = cc

abbrev here : World → ℕ → Seat → Type 0
here w place s = slice_get w.seats place ≡ Some s

records_here : (w : World) (place : ℕ) (s : Seat) → here w place s → records_at w place ≡ records_on (service_at place) s.disk
records_here w place s there = ap (λ (o : Option Seat). option_and_then (λ (x : Seat). records_on (service_at place) x.disk) o) there

seat_of : (w : World) (place : ℕ) (rs : List JournalRecord) → records_at w place ≡ Some rs → (s : Seat) × here w place s × (records_on (service_at place) s.disk ≡ Some rs)
seat_of w place rs is = some_of (λ (x : Seat). records_on (service_at place) x.disk) (slice_get w.seats place) rs is

same_go : (w v : World) → DisksSame w v → RecordsGo w v
same_go w v same place rs is = by (same.back place t.0 t.1)
  where
    t : (t : Seat) × here v place t × (records_on (service_at place) t.disk ≡ Some rs)
    t = seat_of v place rs is

    by : ((s : Seat) × here w place s) ⊎ (t.0.disk.reads ≡ []) → RecordsCome w place rs
    by (inl (s, there)) =
        let at = same.seats place s there in
        let reads = ap (λ (x : Seat). x.disk.reads) (inner (sym t.1 ∙ at.there)) ∙ at.reads in
        as_before (records_here w place s there ∙ ap (records_in (service_at place)) (sym reads) ∙ t.2)
    by (inr empty) = on_new (ap (records_in (service_at place)) (sym empty) ∙ t.2)

load_go : JournalsGrow → LoadsAreSafe → RecordsAreRead → (w : World) (told : List Told) (place : ℕ) (s : Seat) (rs : List JournalRecord) → Known w told
    → slice_get w.seats place ≡ Some s → s.server ≡ OfNode None → records_on (service_at place) s.disk ≡ Some rs → lacks_life (service_at place) rs ≡ false
    → RecordsGo w (loads place s (Some rs) w).world
load_go grow safe read w told place s rs k there down held lacks p now is =
    let first : Seat → Seat = λ x. record x { disk = loaded (service_at place) rs s.disk; stop = None } in
    let second : Seat → Seat = λ x. record x { server = OfNode (Some (load (service_at place) rs)) } in
    turned (second (first s)) left.0 (subst (λ (v : World). records_at v p ≡ Some now) (on_seat_twice place first second w s there) is)
  where
    holds : Holds (service_at place) s.disk.reads rs
    holds = held_as w place s rs told there down held k

    left : StandsFor (service_at place) (loaded (service_at place) rs s.disk).reads (rs ++ next_life rs ∷ []) × IsSettled (loaded (service_at place) rs s.disk)
    left = load_leaves grow safe (service_at place) rs s.disk (k.disks.rests place s there down) holds (life_fits (service_at place) s.disk.reads rs holds) lacks

    turned : (later : Seat) → StandsFor (service_at place) later.disk.reads (rs ++ next_life rs ∷ []) → records_at (with_seat place later w) p ≡ Some now → RecordsCome w p now
    turned later stands is = elim (set_at w.seats place s later p there) [
      | inl own ↦
          let reads : records_on (service_at place) later.disk ≡ Some (rs ++ next_life rs ∷ []) = read (service_at place) later.disk.reads (rs ++ next_life rs ∷ []) stands in
          let at : records_at (with_seat place later w) p ≡ Some (rs ++ next_life rs ∷ []) =
          records_here (with_seat place later w) p later own.1 ∙ subst (λ (i : ℕ). records_on (service_at i) later.disk ≡ Some (rs ++ next_life rs ∷ [])) (sym own.0) reads in
          with_life rs ((found_in rs).life + 1) (ap (records_at w) own.0 ∙ records_here w place s there ∙ held) (inner (sym is ∙ at))
      | inr other ↦ as_before (ap (λ (o : Option Seat). option_and_then (λ (x : Seat). records_on (service_at p) x.disk) o) (sym other) ∙ is)
    ]

-- ---- an answer

module _ (keep : AskedJournalsKeep) (stop : AskedJournalsStop) (read : RecordsAreRead) (may : KnownMayAsk) (w : World) (told : List Told) (k : Known w told)
    (request from reply : ℕ) (o : Outward) (m back : Message) (answer : Said) (s : Seat) (there : slice_get w.messages (request - 1) ≡ Some m)
    (is : m.content ≡ contents.Request from o) (replied : slice_get w.messages reply ≡ Some back) (says : back.content ≡ contents.Reply request answer)
    (seated : slice_get w.seats from ≡ Some s) (waits : is_waited_for w m from o ≡ true) where
  abbrev v : World
  v = with_message (request - 1) (record m { answered = true }) w

  abbrev key : ObjectKey
  key = family_key from o.number

  abbrev e : Event
  e = answer_event o answer s.clock

  replied_so : HasContent w reply (contents.Reply ((request - 1) + 1) answer)
  replied_so =
      let asked = k.words.asked reply request back answer replied says in
      let number = asked.4 in
      let same : request ≡ (request - 1) + 1 = omega (arith, number) in
      (back, replied, says ∙ ap (λ (i : ℕ). contents.Reply i answer) same)

  node_go : (n : Node) → s.server ≡ OfNode (Some n) → RecordsGo w (steps_node (Some n) s from key e v).done.world
  node_go n up p rs at =
      let follows = k.disks.follows from s n seated up in
      let known = k.nodes from n (node_there w from s n seated up) in
      let held : records_at w from ≡ Some follows.records = records_here w from s seated ∙ follows.held in
      let t = seat_of (steps_node (Some n) s from key e v).done.world p rs at in
      elim (node_records keep stop read v from key e s n follows.records seated up follows.held (known.order s follows.records seated held) follows.found follows.service
      (may w told request from reply o m back answer s n k there is replied says seated up waits) p t.0 t.1) [
        | inl was ↦ as_before (records_here w p t.0 was ∙ t.2)
        | inr (own, behind, holds, are) ↦
            let now : rs ≡ follows.records ++ behind = inner (sym t.2 ∙ subst (λ (i : ℕ). records_on (service_at i) t.0.disk ≡ Some (follows.records ++ behind)) (sym own) holds) in
            subst (λ (i : ℕ). RecordsCome w i rs) (sym own)
            (with_asked follows.records behind n (request - 1) reply s.clock o answer held (node_there w from s n seated up) (m, there, is) replied_so are now)
      ]

  pub hearing_go : RecordsGo w (hears_answer (request - 1) m from o answer s w).world
  unfolding steps
  hearing_go =
      subst (λ (x : Option Seat). RecordsGo w (elim x as (λ _. Stepping) [ Some t ↦ steps_node (node_in t.server) t from key e v | None ↦ no_step v ]).done.world)
      (sym seated) (by (node_in s.server) refl)
    where
      by : (up : Option Node) → node_in s.server ≡ up → RecordsGo w (steps_node up s from key e v).done.world
      by None none = λ p rs at. as_before at
      by (Some n) some = node_go n (node_up s.server n some)

-- ---- each step

module _ (grow : JournalsGrow) (safe : LoadsAreSafe) (keep : AskedJournalsKeep) (stop : AskedJournalsStop) (read : RecordsAreRead) (may : KnownMayAsk) where
  pub records_go : (w : World) (told : List Told) (d : Done) → Known w told → Goes w d → RecordsGo w d.world
  records_go w told d k (by_alike v quiet alike all) = same_go w v (alike_same w v alike)
  records_go w told d k (by_receipt number) = same_go w w (same_self w)
  records_go w told d k (by_node name free room) = same_go w _ (seated_same name (OfNode None) w)
  records_go w told d k (by_end name free room short) = same_go w _ (made_end_same name w)
  records_go w told d k (by_load place s rs there down held lacks) = load_go grow safe read w told place s rs k there down held lacks
  records_go w told d k (by_crash place s n there up) = same_go w _ (crash_same w place s there)
  records_go w told d k (by_begin place name seconds s n there up free) = same_go w _ (begin_same w place name seconds s n)
  records_go w told d k (by_calling to act asked few) = same_go w _ (sent_same (client_message (contents.Call to act)) w)
  records_go w told d k (by_call nth now to act m there is asked) =
      same_go w _ (steps_same (place_of to) to (call_event (nth + 1) to act now) w (quiet_call (nth + 1) to act now asked))
  records_go w told d k (by_sub parent name free few) = same_go w _ (sub_same w parent name)
  records_go w told d k (by_register manner transaction place name s e there up free may_so few) =
      same_go w _ (register_same w manner transaction place name s e)
  records_go w told d k (by_touch name key r later named there touched) = same_go w _ (resource_same key later w)
  records_go w told d k (by_word nth place o is) = same_go w _ (obeys_same (nth + 1) o w)
  records_go w told d k (by_hearing request from reply o m back answer s there is replied says seated waits) =
      hearing_go keep stop read may w told k request from reply o m back answer s there is replied says seated waits
  records_go w told d k (by_tick place s n there up) = same_go w _ (ticks_same place s.clock n w)
