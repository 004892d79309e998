-- An answer that is heard leaves what a disk reads, or the record behind it that its node has asked of its journal; where a crash
-- comes inside that too.
use Rattle.std.proofs.Common.{◌≡◌, ◌⊎◌, true, inl, inr, ℕ, ◌-◌, List, [], ◌∷◌, ◌++◌, slice_get, Option, Some, None, refl, sym, ap, subst, ◌∙◌, append-nil}
use Rattle.std.specs.List.{AllByRecursion}
use Rattle.std.specs.Option.{option_and_then}
use Rattle.ior_refs.specs.declared.key.ObjectKey.{ObjectKey}
use Rattle.ots_model.specs.declared.completion.Stood.{Stood}
use Rattle.ots_outside.specs.Disk.{DiskState, at_first}
use Rattle.decision_journal.specs.Journal.{Found, found_in}
use Rattle.decision_journal.specs.declared.record.JournalRecord.{JournalRecord}
use Rattle.decision_journal.specs.declared.record.JournalRecord.TheVariants.{Decision}
use Rattle.coordinator.specs.Node.{Node}
use Rattle.coordinator.specs.NodeCalls.{Applied, applies, call_wants}
use Rattle.coordinator.specs.Step.{Wanted, Appends, Rereads, WritesDone}
use Rattle.coordinator.specs.declared.event.Event.{Event}
use Rattle.nodes_world.specs.Agreement.{records_at}
use Rattle.nodes_world.specs.Asking.{IsOfLife, MayAsk}
use Rattle.nodes_world.specs.Deliveries.{answer_event}
use Rattle.nodes_world.specs.Disks.{Stop}
use Rattle.nodes_world.specs.Happenings as happenings
use Rattle.nodes_world.specs.Happenings.{requests_all}
use Rattle.nodes_world.specs.Journals.{Asked, Answers, Stops, asks, records_on}
use Rattle.nodes_world.specs.Laws.{AreWanted, AskedJournalsKeep, AskedJournalsStop, CanAsk, CrashLeaves, IsInOrder, IsWanted, RecordsAreRead}
use Rattle.nodes_world.specs.Nodes.{Stepping, crashes, crashes_seat, no_step, steps, steps_by, steps_node}
use Rattle.nodes_world.specs.Objects.{family_key, service_at}
use Rattle.nodes_world.specs.World.{World, Seat, OfNode, node_in, with_message, with_seat}
use Rattle.nodes_world.proofs.DisksGoOn.{DecidesIn, DisksGoOn, HearingsGoOn, RecordsGoOn, more, same, same_goes}
use Rattle.nodes_world.proofs.DisksSame.{DisksSame, requests_all_same, same_self}
use Rattle.nodes_world.proofs.Going.{node_up, on_seat_twice}
use Rattle.nodes_world.proofs.HearingsMay.{KnownMayAsk}
use Rattle.nodes_world.proofs.KnownSeats.{set_at}
use Rattle.nodes_world.proofs.KnownWorlds.{node_there}
use Rattle.nodes_world.proofs.SeatSwaps.{requests_seats}

inner : {A : Type 0} {x y : A} → Some x ≡ Some y → x ≡ y
inner e = cc

-- ---- disks go on, and then they stay

goes_then_same : (a b c : World) → DisksGoOn a b → DisksSame b c → DisksGoOn a c
goes_then_same a b c goes is = record {
  names = λ name x at. is.names name x (goes.names name x at);
  seats = λ place s there.
      let one = goes.seats place s there in
      let two = is.seats place one.seat one.there in
      record { seat = two.seat; there = two.there; name = two.name ∙ one.name; records = reads_on place s one.seat two.seat two.reads one.records };
}
  where
    reads_on : (place : ℕ) (s t u : Seat) → u.disk.reads ≡ t.disk.reads → RecordsGoOn place s t → RecordsGoOn place s u
    reads_on place s t u reads (same is) = same (reads ∙ is)
    reads_on place s t u reads (more up rs behind node was now of) =
        more up rs behind node was (ap (λ (octets : List ℕ). records_of place octets) reads ∙ now) of
      where
        records_of : ℕ → List ℕ → Option (List JournalRecord)
        records_of place octets = records_on (service_at place) (at_first octets)

seat_goes : (place : ℕ) (s later : Seat) (w : World) → slice_get w.seats place ≡ Some s → later.name ≡ s.name → RecordsGoOn place s later
    → DisksGoOn w (with_seat place later w)
seat_goes place s later w there name own = record {
  names = λ other x is. is;
  seats = λ p t at. elim (set_at w.seats place s later p there) [
    | inl here ↦
        let is : s ≡ t = inner (sym there ∙ ap (slice_get w.seats) (sym here.0) ∙ at) in
        record {
          seat = later;
          there = here.1;
          name = name ∙ ap (λ (y : Seat). y.name) is;
          records = subst (λ (y : Seat). RecordsGoOn p y later) is (subst (λ (i : ℕ). RecordsGoOn i s later) (sym here.0) own);
        }
    | inr other ↦ record { seat = t; there = other ∙ at; name = refl; records = same refl }
  ];
}

-- ---- what is asked for is of this life

decides_in : (now : ℕ) (r : JournalRecord) → IsOfLife now r → DecidesIn now r
decides_in now (Decision life slot generation by asked regs) is = is
decides_in now _ is = absurd is

wanted_life : (wanted : Option Wanted) (now : ℕ) (r : JournalRecord) → ((item : JournalRecord) → wanted ≡ Some (Appends item) → IsOfLife now item)
    → IsWanted wanted r → DecidesIn now r
wanted_life (Some (Appends item)) now r own is = subst (DecidesIn now) (sym is) (decides_in now item (own item refl))
wanted_life (Some (WritesDone place)) now r own is = subst (DecidesIn now) (sym is) tt
wanted_life (Some Rereads) now r own is = absurd is
wanted_life None now r own is = absurd is

all_wanted : (wanted : Option Wanted) (now : ℕ) (rs : List JournalRecord) → ((item : JournalRecord) → wanted ≡ Some (Appends item) → IsOfLife now item)
    → AreWanted wanted rs → AllByRecursion (DecidesIn now) rs
all_wanted wanted now [] own are = tt
all_wanted wanted now (r ∷ []) own are = (wanted_life wanted now r own are, tt)
all_wanted wanted now (r ∷ s ∷ others) own are = absurd are

-- ---- a call whose journal may be asked

module _ (keep : AskedJournalsKeep) (stop : AskedJournalsStop) (read : RecordsAreRead) (w : World) (place : ℕ) (k : ObjectKey) (e : Event) (s : Seat) (n : Node)
    (rs : List JournalRecord) (there : slice_get w.seats place ≡ Some s) (up : s.server ≡ OfNode (Some n)) (was : records_on (service_at place) s.disk ≡ Some rs)
    (order : IsInOrder (service_at place) s.disk rs) (found : n.found ≡ found_in rs) (service : n.service ≡ service_at place)
    (may : MayAsk (call_wants k e n) n) where
  abbrev wanted : Option Wanted
  wanted = call_wants k e n

  can : CanAsk wanted (found_in rs)
  can = subst (CanAsk wanted) found may.can

  own : (item : JournalRecord) → wanted ≡ Some (Appends item) → IsOfLife (found_in rs).life item
  own item is = subst (λ (f : Found). IsOfLife f.life item) found (may.own item is)

  now : (behind : List JournalRecord) (disk : DiskState) → IsInOrder (service_at place) disk (rs ++ behind) → AreWanted wanted behind
      → (later : Seat) → later.disk ≡ disk → RecordsGoOn place s later
  now behind disk is are later at =
      more (Some n) rs behind up was
      (ap (records_on (service_at place)) at ∙ read (service_at place) disk.reads (rs ++ behind) is.stands)
      (all_wanted wanted (found_in rs).life behind own are)

  asked_is : asks wanted n.service n.found s.disk s.stop ≡ asks wanted (service_at place) (found_in rs) s.disk s.stop
  asked_is = ap (λ (i : ℕ). asks wanted i n.found s.disk s.stop) service ∙ ap (λ (f : Found). asks wanted (service_at place) f s.disk s.stop) found

  -- its journal answers
  answered_goes : (stood : Option Stood) (disk : DiskState) (next : Option Stop) → asks wanted n.service n.found s.disk s.stop ≡ Answers stood disk next
      → DisksGoOn w (steps_by (Answers stood disk next) place k e n w).done.world
  answered_goes stood disk next is =
      let leaves = keep wanted (service_at place) rs s.disk s.stop stood disk next order can (sym asked_is ∙ is) in
      let a : Applied = applies k e stood n in
      let first : Seat → Seat = λ x. record x { disk = disk; stop = next } in
      let second : Seat → Seat = λ x. record x { server = OfNode (Some a.node) } in
      let seated : World = with_seat place (second (first s)) w in
      subst (λ (v : World). DisksGoOn w (requests_all place a.words v).world) (sym (on_seat_twice place first second w s there))
      (goes_then_same w seated (requests_all place a.words seated).world
      (seat_goes place s (second (first s)) w there refl (now leaves.more disk leaves.order leaves.asked (second (first s)) refl))
      (requests_all_same place a.words seated))

  -- or a crash comes
  left_goes : (image : List ℕ) → asks wanted n.service n.found s.disk s.stop ≡ Stops image → RecordsGoOn place s (record s { disk = at_first image; stop = None; server = OfNode None })
  left_goes image is =
      let later : Seat = record s { disk = at_first image; stop = None; server = OfNode None } in
      let leaves = stop wanted (service_at place) rs s.disk s.stop image order can (sym asked_is ∙ is) in
      elim leaves.leaves [
        | inl old ↦ now [] (at_first image) (subst (IsInOrder (service_at place) (at_first image)) (sym (append-nil rs)) old) tt later refl
        | inr new ↦ now (leaves.item ∷ []) (at_first image) new leaves.asked later refl
      ]

  stopped_goes : (image : List ℕ) → asks wanted n.service n.found s.disk s.stop ≡ Stops image → DisksGoOn w (steps_by (Stops image) place k e n w).done.world
  unfolding crashes
  stopped_goes image is =
      let first : Seat → Seat = λ x. record x { disk = at_first image; stop = None } in
      let second : Seat → Seat = λ x. record x { server = OfNode None } in
      let down = ap (λ (o : Option Seat). (elim o as (λ _. happenings.Done) [ Some x ↦ crashes_seat place image x w | None ↦ happenings.nothing w ]).world) there in
      subst (DisksGoOn w) (sym (down ∙ on_seat_twice place first second w s there))
      (seat_goes place s (second (first s)) w there refl (left_goes image is))

  pub node_goes : DisksGoOn w (steps_node (Some n) s place k e w).done.world
  node_goes = by (asks wanted n.service n.found s.disk s.stop) refl
    where
      by : (a : Asked) → asks wanted n.service n.found s.disk s.stop ≡ a → DisksGoOn w (steps_by a place k e n w).done.world
      by (Answers stood disk next) is = answered_goes stood disk next is
      by (Stops image) is = stopped_goes image is

  -- what the disks of seats hold then
  abbrev HasMore : ℕ → Seat → Type 0
  HasMore p t = (p ≡ place) × (behind : List JournalRecord) × (records_on (service_at place) t.disk ≡ Some (rs ++ behind)) × AreWanted wanted behind

  turned_records : (later : Seat) (behind : List JournalRecord) → records_on (service_at place) later.disk ≡ Some (rs ++ behind) → AreWanted wanted behind
      → (p : ℕ) (t : Seat) → slice_get (with_seat place later w).seats p ≡ Some t → (slice_get w.seats p ≡ Some t) ⊎ HasMore p t
  turned_records later behind holds are p t at = elim (set_at w.seats place s later p there) [
    | inl here ↦ inr (here.0, behind, subst (λ (y : Seat). records_on (service_at place) y.disk ≡ Some (rs ++ behind)) (inner (sym here.1 ∙ at)) holds, are)
    | inr other ↦ inl (sym other ∙ at)
  ]

  answered_records : (stood : Option Stood) (disk : DiskState) (next : Option Stop) → asks wanted n.service n.found s.disk s.stop ≡ Answers stood disk next
      → (p : ℕ) (t : Seat) → slice_get (steps_by (Answers stood disk next) place k e n w).done.world.seats p ≡ Some t → (slice_get w.seats p ≡ Some t) ⊎ HasMore p t
  answered_records stood disk next is p t at =
      let leaves = keep wanted (service_at place) rs s.disk s.stop stood disk next order can (sym asked_is ∙ is) in
      let a : Applied = applies k e stood n in
      let first : Seat → Seat = λ x. record x { disk = disk; stop = next } in
      let second : Seat → Seat = λ x. record x { server = OfNode (Some a.node) } in
      turned_records (second (first s)) leaves.more (read (service_at place) disk.reads (rs ++ leaves.more) leaves.order.stands) leaves.asked p t
      (ap (λ (ss : List Seat). slice_get ss p) (sym (requests_seats place a.words _ ∙ ap (λ (x : World). x.seats) (on_seat_twice place first second w s there))) ∙ at)

  stopped_records : (image : List ℕ) → asks wanted n.service n.found s.disk s.stop ≡ Stops image
      → (p : ℕ) (t : Seat) → slice_get (steps_by (Stops image) place k e n w).done.world.seats p ≡ Some t → (slice_get w.seats p ≡ Some t) ⊎ HasMore p t
  unfolding crashes
  stopped_records image is p t at = elim (left.leaves) [
    | inl old ↦ turned_records later [] (read (service_at place) image (rs ++ []) (subst (IsInOrder (service_at place) (at_first image)) (sym (append-nil rs)) old).stands) tt p t down
    | inr new ↦ turned_records later (left.item ∷ []) (read (service_at place) image (rs ++ left.item ∷ []) new.stands) left.asked p t down
  ]
    where
      left : CrashLeaves (service_at place) rs wanted image
      left = stop wanted (service_at place) rs s.disk s.stop image order can (sym asked_is ∙ is)

      later : Seat
      later = record s { disk = at_first image; stop = None; server = OfNode None }

      down : slice_get (with_seat place later w).seats p ≡ Some t
      down =
          let first : Seat → Seat = λ x. record x { disk = at_first image; stop = None } in
          let second : Seat → Seat = λ x. record x { server = OfNode None } in
          let world = ap (λ (o : Option Seat). (elim o as (λ _. happenings.Done) [ Some x ↦ crashes_seat place image x w | None ↦ happenings.nothing w ]).world) there
          ∙ on_seat_twice place first second w s there in
          ap (λ (x : World). slice_get x.seats p) (sym world) ∙ at

  -- of a seat then the disk is as it was, or has what was wanted behind its records
  pub node_records : (p : ℕ) (t : Seat) → slice_get (steps_node (Some n) s place k e w).done.world.seats p ≡ Some t → (slice_get w.seats p ≡ Some t) ⊎ HasMore p t
  node_records = by (asks wanted n.service n.found s.disk s.stop) refl
    where
      by : (a : Asked) → asks wanted n.service n.found s.disk s.stop ≡ a
          → (p : ℕ) (t : Seat) → slice_get (steps_by a place k e n w).done.world.seats p ≡ Some t → (slice_get w.seats p ≡ Some t) ⊎ HasMore p t
      by (Answers stood disk next) is = answered_records stood disk next is
      by (Stops image) is = stopped_records image is

-- ---- an answer

pub hearings_go_on : AskedJournalsKeep → AskedJournalsStop → RecordsAreRead → KnownMayAsk → HearingsGoOn
unfolding steps
hearings_go_on keep stop read may w told request from reply o m back answer s k there is replied says seated waits =
    subst (λ (x : Option Seat). DisksGoOn w (elim x as (λ _. Stepping) [ Some t ↦ steps_node (node_in t.server) t from key e v | None ↦ no_step v ]).done.world)
    (sym seated) (by (node_in s.server) refl)
  where
    v : World
    v = with_message (request - 1) (record m { answered = true }) w

    key : ObjectKey
    key = family_key from o.number

    e : Event
    e = answer_event o answer s.clock

    -- what became of a message is no seat
    from_then : {u : World} → DisksGoOn v u → DisksGoOn w u
    from_then goes = record { names = goes.names; seats = goes.seats }

    by : (up : Option Node) → node_in s.server ≡ up → DisksGoOn w (steps_node up s from key e v).done.world
    by None none = from_then (same_goes v v (same_self v))
    by (Some n) some =
        let up = node_up s.server n some in
        let follows = k.disks.follows from s n seated up in
        let at = k.nodes from n (node_there w from s n seated up) in
        let here : records_at w from ≡ Some follows.records = ap (λ (x : Option Seat). option_and_then (λ (t : Seat). records_on (service_at from) t.disk) x) seated ∙ follows.held in
        from_then (node_goes keep stop read v from key e s n follows.records seated up follows.held (at.order s follows.records seated here) follows.found follows.service
        (may w told request from reply o m back answer s n k there is replied says seated up waits))
