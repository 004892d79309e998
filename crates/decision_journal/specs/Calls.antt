-- What the calls of a journal make of its disk, and what stands after each of their answers (our profile).
use Rattle.std.specs.Prelude.{◌≡◌, ℕ, ◌+◌, ◌≤◌, ◌⊎◌, Bool, true, if◌then◌else◌, not, length, Option, IfSome, IsTrue}
use Rattle.std.specs.List.{list_any}
use Rattle.ots_outside.specs.Disk.{DiskState, IsAfterRefusal, Tells, synced}
use Rattle.decision_journal.specs.declared.journal.JournalFault.{JournalFault}
use Rattle.decision_journal.specs.declared.journal.JournalFault.TheVariants.{DiskFault, Full, BadHeader, BadRecord, LivesSpent, Memory}
use Rattle.decision_journal.specs.declared.record.JournalRecord.{JournalRecord}
use Rattle.decision_journal.specs.declared.record.JournalRecord.TheVariants.{Done}
use Rattle.decision_journal.specs.Journal.{is_decision_at}
use Rattle.decision_journal.specs.Laws.{IsOnTheWay, appended, behind_gate}
use Rattle.decision_journal.specs.State.{HasMore, HasNoRoom, HasReread, IsAtRest, IsUnread, IsUnsure, IsWithinArea, JournalState, need, used}

-- the disk once its journal is known: as it was, or synced where a call had failed
abbrev pub reread : Bool → DiskState → DiskState
reread failed disk = if failed then synced disk else disk

-- nothing was written: the disk was synced, or a sync was refused
abbrev pub IsUnwritten : DiskState → DiskState → Type 0
IsUnwritten before after = IsAfterRefusal before (synced before) after

-- the journal has what its disk holds: its octets are a header and records, which leave what was found and have room, and the
-- disk reads them and a gate that isn't open, all of it synced
pub record IsCurrent {D : Type 0} (told : D → Option DiskState) (journal : JournalState D) : Type 0 where
  pub within : IsWithinArea journal.area journal.service journal.octets journal.found
  pub rest : IfSome (told journal.disk) (IsAtRest journal.octets)

-- nothing was written: the disk was read again where a call had failed, and the journal has what it holds
pub record IsReady {D : Type 0} (told : D → Option DiskState) (before after : JournalState D) : Type 0 where
  pub journal : HasReread before after
  pub disk : Tells (told before.disk) (told after.disk) (λ s t. t ≡ reread before.failed s)
  pub current : IsCurrent told after

-- nothing was written: a call had failed, the disk could not be read again, and the journal knows and doubts what it did
pub record IsUnready {D : Type 0} (told : D → Option DiskState) (before after : JournalState D) : Type 0 where
  pub journal : IsUnread before after
  pub disk : Tells (told before.disk) (told after.disk) IsUnwritten
  pub was : before.failed ≡ true

-- the record was appended at this place, to a journal that had what its disk held
pub record IsAppended {D : Type 0} (told : D → Option DiskState) (before : JournalState D) (r : JournalRecord) (after : JournalState D) (place : ℕ) : Type 0 where
  pub journal : HasMore before after r place
  pub disk : Tells (told before.disk) (told after.disk) (λ s t. t ≡ appended place (behind_gate r) s)

-- an append of the record to such a journal was begun, and it is in doubt: the disk has the moments of the whole append, but
-- the last ones
pub record IsInDoubt {D : Type 0} (told : D → Option DiskState) (before : JournalState D) (r : JournalRecord) (after : JournalState D) : Type 0 where
  pub journal : IsUnsure before r after
  pub disk : Tells (told before.disk) (told after.disk) (λ s t. IsOnTheWay s (appended (length before.octets) (behind_gate r) s) t)

-- once the journal was ready, the record was appended at this place, and there was room for it
pub record HasAppended {D : Type 0} (told : D → Option DiskState) (before : JournalState D) (r : JournalRecord) (after : JournalState D) (place : ℕ) : Type 0 where
  pub ready : JournalState D
  pub is_ready : IsReady told before ready
  pub appended : IsAppended told ready r after place
  pub room : used ready.octets ready.found + need ready.area ready.found r ≤ ready.area

-- once the journal was ready, an append of the record was begun, and it is in doubt
pub record HasDoubt {D : Type 0} (told : D → Option DiskState) (before : JournalState D) (r : JournalRecord) (after : JournalState D) : Type 0 where
  pub ready : JournalState D
  pub is_ready : IsReady told before ready
  pub doubt : IsInDoubt told ready r after

-- what stands after a refused append
abbrev pub IsRefusedAppend : {D : Type 0} → (D → Option DiskState) → JournalState D → JournalRecord → JournalState D → JournalFault → Type 0
IsRefusedAppend told before r after DiskFault = IsUnready told before after ⊎ HasDoubt told before r after
IsRefusedAppend told before r after (Full u n) = IsReady told before after × HasNoRoom after.area after.octets after.found r u n
IsRefusedAppend told before r after (BadHeader place) = IsUnready told before after
IsRefusedAppend told before r after (BadRecord place) = IsUnready told before after
IsRefusedAppend told before r after LivesSpent = ⊥
IsRefusedAppend told before r after Memory = IsUnready told before after ⊎ HasDoubt told before r after

-- once the journal was ready, a Done of a record that stood was appended
pub record HasDone {D : Type 0} (told : D → Option DiskState) (before after : JournalState D) (place : ℕ) : Type 0 where
  pub ready : JournalState D
  pub is_ready : IsReady told before ready
  pub at : ℕ
  pub appended : IsAppended told ready (Done place) after at
  pub stood : IsTrue (list_any (is_decision_at place) ready.found.standing)

-- no decision or prepared record stood at this place, and nothing was written
pub record HasNone {D : Type 0} (told : D → Option DiskState) (before after : JournalState D) (place : ℕ) : Type 0 where
  pub ready : IsReady told before after
  pub none : IsTrue (not (list_any (is_decision_at place) after.found.standing))

-- the record at this place is done, or didn't stand
abbrev pub IsAfterDone : {D : Type 0} → (D → Option DiskState) → JournalState D → JournalState D → ℕ → Type 0
IsAfterDone told before after place = HasDone told before after place ⊎ HasNone told before after place

-- what stands after a refused reading of the journal's octets
abbrev pub IsRefusedReading : {D : Type 0} → (D → Option DiskState) → JournalState D → JournalState D → JournalFault → Type 0
IsRefusedReading told before after DiskFault = IsUnready told before after
IsRefusedReading told before after (Full u n) = ⊥
IsRefusedReading told before after (BadHeader place) = IsUnready told before after
IsRefusedReading told before after (BadRecord place) = IsUnready told before after
IsRefusedReading told before after LivesSpent = ⊥
IsRefusedReading told before after Memory = IsUnready told before after ⊎ IsReady told before after
