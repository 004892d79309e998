-- What a journal that works has done where it was asked for what a call wants.
use Rattle.std.proofs.Common.{◌≡◌, inl, inr, ℕ, ◌+◌, ◌<◌, ◌≤◌, Bool, true, false, cond, List, [], ◌∷◌, ◌++◌, length, Option, Some, None, refl, sym, ap, subst, ◌∙◌}
use Rattle.std.specs.Prelude.{IsTrue, not}
use Rattle.std.specs.List.{list_any}
use Rattle.ots_model.specs.declared.completion.Stood.{Stood}
use Rattle.ots_model.specs.declared.completion.Stood.TheVariants as answers
use Rattle.ots_outside.specs.Disk.{synced}
use Rattle.ots_outside.specs.MemDisk.{MemDiskState}
use Rattle.decision_journal.specs.Calls.{HasDoubt, HasNone, IsAppended, IsReady, IsRefusedAppend, IsUnready}
use Rattle.decision_journal.specs.Journal.{AreRecords, Found, is_decision_at, with_record}
use Rattle.decision_journal.specs.Laws.{appended, behind_gate}
use Rattle.decision_journal.specs.Layout.{record_octets}
use Rattle.decision_journal.specs.State.{HasNoRoom, JournalState, need, used}
use Rattle.decision_journal.specs.declared.journal.JournalFault.{JournalFault}
use Rattle.decision_journal.specs.declared.journal.JournalFault.TheVariants.{DiskFault, Full, BadHeader, BadRecord, LivesSpent, Memory}
use Rattle.decision_journal.specs.declared.record.JournalRecord.{JournalRecord}
use Rattle.decision_journal.specs.declared.record.JournalRecord.TheVariants.{Done}
use Rattle.decision_journal.proofs.Joined.{known_now}
use Rattle.coordinator.specs.Step.{Wanted, Appends, WritesDone, Rereads}
use Rattle.family_step.specs.Asking.{IsAsked, IsClosed, IsRecorded, is_full, stood_by}
use Rattle.nodes_lives.specs.Running.{told}

-- the journal is as it was
pub record IsSame (s t : JournalState MemDiskState) : Type 0 where
  pub octets : t.octets ≡ s.octets
  pub found : t.found ≡ s.found
  pub area : t.area ≡ s.area
  pub service : t.service ≡ s.service
  pub disk : t.disk.disk ≡ s.disk.disk
  pub failed : t.failed ≡ false
  pub sure : t.doubted ≡ None

-- it has one record more
pub record HasOneMore (s t : JournalState MemDiskState) (item : JournalRecord) : Type 0 where
  pub octets : t.octets ≡ s.octets ++ record_octets item
  pub found : t.found ≡ with_record s.found (length s.octets) item
  pub area : t.area ≡ s.area
  pub service : t.service ≡ s.service
  pub disk : t.disk.disk ≡ appended (length s.octets) (behind_gate item) s.disk.disk
  pub failed : t.failed ≡ false
  pub sure : t.doubted ≡ None
  pub records : List JournalRecord
  pub were : AreRecords s.service s.octets s.found records
  pub are : AreRecords s.service t.octets t.found (records ++ item ∷ [])

-- what it has done
pub data Comes (s t : JournalState MemDiskState) (w : Option Wanted) (stood : Option Stood) : Type 0 where
  unasked : IsSame s t → w ≡ None → stood ≡ None → Comes s t w stood
  full : (item : JournalRecord) → IsSame s t → w ≡ Some (Appends item) → stood ≡ Some (answers.Full (used s.octets s.found) (need s.area s.found item))
      → s.area < used s.octets s.found + need s.area s.found item → Comes s t w stood
  added : (item : JournalRecord) → HasOneMore s t item → w ≡ Some (Appends item) → stood ≡ Some (answers.Stands (length s.octets))
      → used s.octets s.found + need s.area s.found item ≤ s.area → Comes s t w stood
  closed : (place : ℕ) → HasOneMore s t (Done place) → w ≡ Some (WritesDone place) → stood ≡ Some (answers.Stands place) → Comes s t w stood

module _ (s : JournalState MemDiskState) (working : s.failed ≡ false) (sure : s.doubted ≡ None) where
  no : {A : Type 0} (b : Bool) → b ≡ false → b ≡ true → A
  no b is so = absurd cc

  ready_same : (r : JournalState MemDiskState) → IsReady told s r → IsSame s r
  ready_same r is =
      let known = known_now r.octets s.octets r.found s.found s.doubted sure is.journal.known in
      record {
        octets = known.0;
        found = known.1;
        area = is.journal.area;
        service = is.journal.service;
        disk = is.disk ∙ ap (λ (b : Bool). cond b (synced s.disk.disk) s.disk.disk) working;
        failed = is.journal.failed;
        sure = is.journal.doubted;
      }

  one_more : (r t : JournalState MemDiskState) (item : JournalRecord) (place : ℕ) → IsSame s r → IsAppended told r item t place → HasOneMore s t item
  one_more r t item place same is =
      let j = is.journal in
      record {
        octets = j.octets_are ∙ ap (λ (xs : List ℕ). xs ++ record_octets item) same.octets;
        found = j.found_is ∙ ap (λ (f : Found). with_record f (length r.octets) item) same.found ∙ ap (λ (xs : List ℕ). with_record s.found (length xs) item) same.octets;
        area = j.area ∙ same.area;
        service = j.service ∙ same.service;
        disk = is.disk ∙ ap (λ (n : ℕ). appended n (behind_gate item) r.disk.disk) (j.place_is ∙ ap length same.octets)
            ∙ ap (appended (length s.octets) (behind_gate item)) same.disk;
        failed = j.failed;
        sure = j.doubted;
        records = j.records;
        were = subst (λ (n : ℕ). AreRecords n s.octets s.found j.records) same.service
            (subst (λ (xs : List ℕ). AreRecords r.service xs s.found j.records) same.octets
            (subst (λ (f : Found). AreRecords r.service r.octets f j.records) same.found j.were));
        are = subst (λ (n : ℕ). AreRecords n t.octets t.found (j.records ++ item ∷ [])) same.service j.are;
      }

  doubt_fails : {A : Type 0} (t : JournalState MemDiskState) (r : JournalRecord) → t.failed ≡ false → HasDoubt told s r t → A
  doubt_fails t r now d = no t.failed now d.doubt.journal.failed

  unready_fails : {A : Type 0} (t : JournalState MemDiskState) → t.failed ≡ false → IsUnready told s t → A
  unready_fails t now d = no t.failed now d.journal.failed

  full_comes : (t : JournalState MemDiskState) (item : JournalRecord) (u n : ℕ) → IsReady told s t × HasNoRoom t.area t.octets t.found item u n
      → Comes s t (Some (Appends item)) (Some (answers.Full u n))
  full_comes t item u n is =
      let same = ready_same t is.0 in
      let uses : u ≡ used s.octets s.found = is.1.0 ∙ ap (λ (xs : List ℕ). used xs t.found) same.octets ∙ ap (used s.octets) same.found in
      let needs : n ≡ need s.area s.found item = is.1.1 ∙ ap (λ (a : ℕ). need a t.found item) same.area ∙ ap (λ (f : Found). need s.area f item) same.found in
      let less : s.area < u + n = subst (λ (a : ℕ). a < u + n) same.area is.1.2 in
      full item same refl
      (ap (λ (x : ℕ). Some (answers.Full x n)) uses ∙ ap (λ (x : ℕ). Some (answers.Full (used s.octets s.found) x)) needs)
      (subst (λ (x : ℕ). s.area < x + need s.area s.found item) uses (subst (λ (x : ℕ). s.area < u + x) needs less))

  refused : (t : JournalState MemDiskState) (item : JournalRecord) (a b : ℕ) (fault : JournalFault) → t.failed ≡ false → IsRefusedAppend told s item t fault
      → Comes s t (Some (Appends item)) (Some (stood_by fault a b))
  refused t item a b DiskFault now left = elim left [ inl un ↦ unready_fails t now un | inr d ↦ doubt_fails t item now d ]
  refused t item a b (Full u n) now left = full_comes t item u n left
  refused t item a b (BadHeader at) now left = unready_fails t now left
  refused t item a b (BadRecord at) now left = unready_fails t now left
  refused t item a b LivesSpent now left = absurd left
  refused t item a b Memory now left = elim left [ inl un ↦ unready_fails t now un | inr d ↦ doubt_fails t item now d ]

  refused_done : {A : Type 0} (t : JournalState MemDiskState) (place : ℕ) (fault : JournalFault) → t.failed ≡ false → is_full fault ≡ false
      → IsRefusedAppend told s (Done place) t fault → A
  refused_done t place DiskFault now roomy left = elim left [ inl un ↦ unready_fails t now un | inr d ↦ doubt_fails t (Done place) now d ]
  refused_done t place (Full u n) now roomy left = absurd cc
  refused_done t place (BadHeader at) now roomy left = unready_fails t now left
  refused_done t place (BadRecord at) now roomy left = unready_fails t now left
  refused_done t place LivesSpent now roomy left = absurd left
  refused_done t place Memory now roomy left = elim left [ inl un ↦ unready_fails t now un | inr d ↦ doubt_fails t (Done place) now d ]

  recorded : (t : JournalState MemDiskState) (item : JournalRecord) (stood : Stood) → IsRecorded told item s t stood → Comes s t (Some (Appends item)) (Some stood)
  recorded t item stood is =
      let d = is.appended in
      let same = ready_same d.ready d.is_ready in
      let room : used d.ready.octets d.ready.found + need d.ready.area d.ready.found item ≤ d.ready.area = d.room in
      added item (one_more d.ready t item is.place same d.appended) refl
      (ap (λ (x : Stood). Some x) is.stood_is ∙ ap (λ (x : ℕ). Some (answers.Stands x)) (d.appended.journal.place_is ∙ ap length same.octets))
      (subst (λ (a : ℕ). used s.octets s.found + need a s.found item ≤ a) same.area
      (subst (λ (f : Found). used s.octets f + need d.ready.area f item ≤ d.ready.area) same.found
      (subst (λ (xs : List ℕ). used xs d.ready.found + need d.ready.area d.ready.found item ≤ d.ready.area) same.octets room)))

  not_both : {A : Type 0} (b : Bool) → IsTrue b → IsTrue (not b) → A
  not_both true is other = absurd cc
  not_both false is other = absurd cc

  not_none : {A : Type 0} (t : JournalState MemDiskState) (place : ℕ) → IsTrue (list_any (is_decision_at place) s.found.standing) → HasNone told s t place → A
  not_none t place stands is =
      let same = ready_same t is.ready in
      let none = subst (λ (f : Found). IsTrue (not (list_any (is_decision_at place) f.standing))) same.found is.none in
      not_both (list_any (is_decision_at place) s.found.standing) stands none

  was_closed : (t : JournalState MemDiskState) (place : ℕ) (stood : Stood) → IsTrue (list_any (is_decision_at place) s.found.standing) → IsClosed told place s t stood
      → Comes s t (Some (WritesDone place)) (Some stood)
  was_closed t place stood stands is = elim is.done [
    | inl has ↦ closed place (one_more has.ready t (Done place) has.at (ready_same has.ready has.is_ready) has.appended) refl (ap (λ (x : Stood). Some x) is.stood_is)
    | inr none ↦ not_none t place stands none
  ]

  pub comes : (counts : MemDiskState → ℕ) (w : Option Wanted) (t : JournalState MemDiskState) (stood : Option Stood) → IsAsked told counts w s t stood → t.failed ≡ false
      → ((place : ℕ) → w ≡ Some (WritesDone place) → IsTrue (list_any (is_decision_at place) s.found.standing)) → Comes s t w stood
  comes counts None t stood asked now due = unasked (subst (IsSame s) (sym asked.0) (record { octets = refl; found = refl; area = refl; service = refl; disk = refl; failed = working; sure = sure })) refl asked.1
  comes counts (Some w) t None asked now due = absurd asked
  comes counts (Some (Appends item)) t (Some stood) asked now due = elim asked [
    | inl is ↦ recorded t item stood is
    | inr no_room ↦
        subst (λ (x : Stood). Comes s t (Some (Appends item)) (Some x)) (sym no_room.stood_is)
        (refused t item (counts s.disk) (counts t.disk) no_room.fault now no_room.left)
  ]
  comes counts (Some (WritesDone place)) t (Some stood) asked now due = elim asked [
    | inl is ↦ was_closed t place stood (due place refl) is
    | inr no_done ↦ refused_done t place no_done.fault now no_done.roomy no_done.left
  ]
  comes counts (Some Rereads) t (Some stood) asked now due = absurd asked
