-- Laws on disks and journals: an append that is made stroke by stroke is the append of a journal, and what a crash inside each of its
-- writes leaves (our profile).
use Rattle.std.specs.Prelude.{◌≡◌, ℕ, ◌+◌, ◌≤◌, ◌⊎◌, IsTrue, List, [], ◌∷◌, ◌++◌, length, Option, Some, None}
use Rattle.std.specs.List.{list_any}
use Rattle.ots_model.specs.declared.completion.Stood.{Stood}
use Rattle.ots_outside.specs.Disk.{DiskState, IsImage, at_first, written}
use Rattle.ots_world.specs.declared.script.Image.{Image}
use Rattle.ots_world.specs.declared.script.Image.TheVariants as images
use Rattle.decision_journal.specs.Journal.{Found, StandsFor, StandsForEither, found_in, front, is_decision, is_decision_at}
use Rattle.decision_journal.specs.Laws.{CanAppend, IsSettled, appended, behind_gate, filled_behind}
use Rattle.decision_journal.specs.Layout.{Fits}
use Rattle.decision_journal.specs.State.{used}
use Rattle.decision_journal.specs.declared.record.JournalRecord.{JournalRecord}
use Rattle.decision_journal.specs.declared.record.JournalRecord.TheVariants.{Done}
use Rattle.coordinator.specs.NodeCalls.{journaled}
use Rattle.coordinator.specs.Step.{Wanted, Appends, WritesDone, Rereads}
use Rattle.nodes_world.specs.Limits.{area_limit}
use Rattle.nodes_world.specs.Disks.{Stop, Struck, Whole, Broken, left_by, strikes}
use Rattle.nodes_world.specs.Journals.{Answers, Stops, append_strokes, asks, records_in}

-- a stop inside a write
abbrev pub stop_at : ℕ → Image → Option Stop
stop_at write image = Some (record { write = write; image = image })

-- what becomes of a disk by an append of a record behind this gate
abbrev pub struck_by : ℕ → JournalRecord → DiskState → Option Stop → Struck
struck_by gate r disk stop = strikes (append_strokes gate r) disk stop

pub record AppendsStrike : Type 0 where
  -- without a stop it is the append of the journal
  pub whole : (gate : ℕ) (r : JournalRecord) (disk : DiskState)
      → struck_by gate r disk None ≡ Whole (appended gate (behind_gate r) disk) None
  -- its first write is that behind the gate, its second that of the gate: a crash inside each may leave what stood before it, or
  -- that write too
  pub first_undone : (gate : ℕ) (r : JournalRecord) (disk : DiskState)
      → struck_by gate r disk (stop_at 1 images.Old) ≡ Broken disk.present.synced
  pub first_done : (gate : ℕ) (r : JournalRecord) (disk : DiskState)
      → struck_by gate r disk (stop_at 1 images.New) ≡ Broken (written (gate + 1) (behind_gate r) disk).reads
  pub second_undone : (gate : ℕ) (r : JournalRecord) (disk : DiskState)
      → struck_by gate r disk (stop_at 2 images.Old) ≡ Broken (filled_behind gate (behind_gate r) disk).reads
  pub second_done : (gate : ℕ) (r : JournalRecord) (disk : DiskState)
      → struck_by gate r disk (stop_at 2 images.New) ≡ Broken (appended gate (behind_gate r) disk).reads
  -- a later stop comes two writes nearer
  pub later : (gate : ℕ) (r : JournalRecord) (disk : DiskState) (image : Image)
      → struck_by gate r disk (stop_at 3 image) ≡ Whole (appended gate (behind_gate r) disk) (stop_at 1 image)

-- what a stop leaves is one of the images that a crash at that moment may leave
abbrev pub WhatIsLeftIsAnImage : Type 0
WhatIsLeftIsAnImage = (image : Image) (disk : DiskState) → IsImage disk.present disk.reads → IsImage disk.present (left_by image disk)

-- the records that octets stand for are those that are read in them
abbrev pub RecordsAreRead : Type 0
RecordsAreRead = (service : ℕ) (octets : List ℕ) (rs : List JournalRecord) → StandsFor service octets rs → records_in service octets ≡ Some rs

-- where an append goes through, it is that of the journal
abbrev pub AppendsGoThrough : Type 0
AppendsGoThrough = (gate : ℕ) (r : JournalRecord) (disk : DiskState) (stop : Option Stop) (later : DiskState) (next : Option Stop)
    → struck_by gate r disk stop ≡ Whole later next → later ≡ appended gate (behind_gate r) disk

-- where a stop comes inside it, the records of before are left, or these and the new one
abbrev pub StoppedAppendsAreSafe : Type 0
StoppedAppendsAreSafe = (service : ℕ) (rs : List JournalRecord) (r : JournalRecord) (disk : DiskState) (stop : Option Stop) (image : List ℕ)
    → IsSettled disk → StandsFor service disk.reads rs → CanAppend service rs r
    → struck_by (length (front service rs)) r disk stop ≡ Broken image → StandsForEither service rs r image

-- what a call may ask of a journal in which this is found: that a decision be appended, or the Done of one that stands
abbrev pub CanAsk : Option Wanted → Found → Type 0
CanAsk None found = Unit {0}
CanAsk (Some (Appends item)) found = Fits item × IsTrue (is_decision item)
CanAsk (Some (WritesDone place)) found = Fits (Done place) × IsTrue (list_any (is_decision_at place) found.standing)
CanAsk (Some Rereads) found = Unit {0}

-- all is synced, it stands for these records, and what they use is within the area
pub record IsInOrder (service : ℕ) (disk : DiskState) (rs : List JournalRecord) : Type 0 where
  pub settled : IsSettled disk
  pub stands : StandsFor service disk.reads rs
  pub room : used (front service rs) (found_in rs) ≤ area_limit

-- a record is the one that is asked for
abbrev pub IsWanted : Option Wanted → JournalRecord → Type 0
IsWanted (Some (Appends item)) r = r ≡ item
IsWanted (Some (WritesDone place)) r = r ≡ Done place
IsWanted _ r = ⊥

-- no records, or the one that is asked for
abbrev pub AreWanted : Option Wanted → List JournalRecord → Type 0
AreWanted wanted [] = Unit {0}
AreWanted wanted (r ∷ []) = IsWanted wanted r
AreWanted wanted (r ∷ s ∷ others) = ⊥

-- behind its records a disk has those that were appended, and the journal finds them
pub record AskingLeaves (service : ℕ) (rs : List JournalRecord) (wanted : Option Wanted) (stood : Option Stood) (later : DiskState) : Type 0 where
  pub more : List JournalRecord
  pub order : IsInOrder service later (rs ++ more)
  pub found : journaled wanted stood (found_in rs) ≡ found_in (rs ++ more)
  pub asked : AreWanted wanted more

-- a crash leaves the records of before, or these and the one that was asked for
pub record CrashLeaves (service : ℕ) (rs : List JournalRecord) (wanted : Option Wanted) (image : List ℕ) : Type 0 where
  pub item : JournalRecord
  pub asked : IsWanted wanted item
  pub leaves : IsInOrder service (at_first image) rs ⊎ IsInOrder service (at_first image) (rs ++ item ∷ [])

abbrev pub AskedJournalsKeep : Type 0
AskedJournalsKeep = (wanted : Option Wanted) (service : ℕ) (rs : List JournalRecord) (disk : DiskState) (stop : Option Stop) (stood : Option Stood)
    (later : DiskState) (next : Option Stop) → IsInOrder service disk rs → CanAsk wanted (found_in rs)
    → asks wanted service (found_in rs) disk stop ≡ Answers stood later next → AskingLeaves service rs wanted stood later

abbrev pub AskedJournalsStop : Type 0
AskedJournalsStop = (wanted : Option Wanted) (service : ℕ) (rs : List JournalRecord) (disk : DiskState) (stop : Option Stop) (image : List ℕ)
    → IsInOrder service disk rs → CanAsk wanted (found_in rs)
    → asks wanted service (found_in rs) disk stop ≡ Stops image → CrashLeaves service rs wanted image
