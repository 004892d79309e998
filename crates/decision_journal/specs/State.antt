-- A journal as its callers see it, and what its calls answer (our profile).
use Rattle.std.specs.Prelude.{◌≡◌, ℕ, ◌+◌, ◌*◌, ◌<◌, ◌≤◌, ◌⊎◌, Bool, true, false, nat_lt, if◌then◌else◌, List, [], ◌∷◌, ◌++◌, length, Option, Some, None, IfSome, IsTrue}
use Rattle.std.specs.List.{count_by}
use Rattle.ots_outside.specs.Disk.{DiskState, IsImage, LeavesOnly, LeavesOnlySince}
use Rattle.ots_outside.specs.Source.{HasRisen}
use Rattle.decision_journal.specs.declared.journal.JournalFault.{JournalFault}
use Rattle.decision_journal.specs.declared.journal.JournalFault.TheVariants.{DiskFault, Full, BadHeader, BadRecord, LivesSpent, Memory}
use Rattle.decision_journal.specs.declared.record.JournalRecord.{JournalRecord}
use Rattle.decision_journal.specs.declared.record.JournalRecord.TheVariants.{Life, Decision, Done, Prepared, CellsPrepared, CellsOutcome, CellsOnePhase}
use Rattle.decision_journal.specs.Limits.{area_limit, standing_limit}
use Rattle.decision_journal.specs.Layout.{Fits, record_octets}
use Rattle.decision_journal.specs.Journal.{AreRecords, Found, IsFilled, StandsAt, StandsFor, StandsForEither, can_follow, found_in, is_decision, with_record}
use Rattle.decision_journal.specs.Laws.{IsSettled}

-- a journal: its disk, how large its area is, its service, the octets before the gate at the end, what their records leave,
-- whether the next call has to read the disk again, the record that the failed call may have appended, and for how many records
-- of cells there is room
pub record JournalState (D : Type 0) : Type 0 where
  pub disk : D
  pub area : ℕ
  pub service : ℕ
  pub octets : List ℕ
  pub found : Found
  pub failed : Bool
  pub doubted : Option JournalRecord
  pub room : ℕ

-- how many records of cells a record is: one, or none
abbrev pub cells_in : JournalRecord → ℕ
cells_in (Life life) = 0
cells_in (Decision life slot generation k asked regs) = 0
cells_in (Done place) = 0
cells_in (Prepared life slot generation recovery regs) = 0
cells_in (CellsPrepared life number recovery ps) = 1
cells_in (CellsOutcome place end) = 1
cells_in (CellsOnePhase life number ps) = 1

-- what reading the disk again may find: the octets that are known and what they leave, or these and the record in doubt
abbrev pub MayFind : List ℕ → Found → Option JournalRecord → List ℕ → Found → Type 0
MayFind octets found None more after = (more ≡ octets) × (after ≡ found)
MayFind octets found (Some r) more after =
    ((more ≡ octets) × (after ≡ found)) ⊎ ((more ≡ octets ++ record_octets r) × (after ≡ with_record found (length octets) r))

-- what a journal may find
abbrev pub MayHave : {D : Type 0} → JournalState D → List ℕ → Found → Type 0
MayHave journal octets found = MayFind journal.octets journal.found journal.doubted octets found

-- a record can follow whatever a journal may find
abbrev pub MayFollow : {D : Type 0} → JournalState D → JournalRecord → Type 0
MayFollow journal r = (octets : List ℕ) (found : Found) → MayHave journal octets found → IsTrue (can_follow found r)

-- the disk reads these octets and a gate that isn't open, and all is synced
pub record IsAtRest (octets : List ℕ) (disk : DiskState) : Type 0 where
  pub settled : IsSettled disk
  pub stands : StandsAt octets disk.reads

-- octets begin with those that are known and a gate that isn't open, or with these, the record in doubt, and such a gate
abbrev pub BeginsWithEither : List ℕ → Option JournalRecord → List ℕ → Type 0
BeginsWithEither octets None image = StandsAt octets image
BeginsWithEither octets (Some r) image = StandsAt octets image ⊎ StandsAt (octets ++ record_octets r) image

-- the octets of a record in doubt, and what is found with it, where its gate is at this place
abbrev pub doubted_octets : Option JournalRecord → List ℕ
doubted_octets None = []
doubted_octets (Some r) = record_octets r

abbrev pub with_doubted : Found → ℕ → Option JournalRecord → Found
with_doubted found place None = found
with_doubted found place (Some r) = with_record found place r

-- where the disk tells its state: if no call has failed since it was read, it is at rest; else a crash leaves what was
-- known, or that and the record in doubt
abbrev pub IsKept : Bool → List ℕ → Option JournalRecord → Option DiskState → Type 0
IsKept true octets doubted told = IfSome told (λ disk. LeavesOnly (BeginsWithEither octets doubted) disk.present)
IsKept false octets None told = IfSome told (IsAtRest octets)
IsKept false octets (Some r) told = ⊥

-- how many decisions and prepared records stand
abbrev pub decisions : Found → ℕ
decisions found = count_by (λ s. is_decision s.item) found.standing

-- the octets used: those before the gate, the gate, and ten for the Done of each decision that stands
abbrev pub used : List ℕ → Found → ℕ
used octets found = length octets + 1 + 10 * decisions found

-- octets are records that leave what was found, and what they use is within the area
pub record IsWithinArea (area service : ℕ) (octets : List ℕ) (found : Found) : Type 0 where
  pub filled : IsFilled service octets found
  pub room : used octets found ≤ area

-- whatever a journal may find are records that leave what it then finds, and they are within the area
abbrev pub StaysWithinArea : {D : Type 0} → JournalState D → Type 0
StaysWithinArea journal = (octets : List ℕ) (found : Found) → MayHave journal octets found → IsWithinArea journal.area journal.service octets found

-- what holds of a journal at any time
pub record IsSound (told : Option DiskState) (area service : ℕ) (octets : List ℕ) (found : Found) (failed : Bool) (doubted : Option JournalRecord) : Type 0 where
  pub each : (more : List ℕ) (after : Found) → MayFind octets found doubted more after → IsWithinArea area service more after
  pub fits : IfSome doubted Fits
  pub area_is : area < area_limit + 1
  pub kept : IsKept failed octets doubted told

-- the octets that a record needs: its own, and ten for its Done if it is a decision; where too many stand, none will do
abbrev pub need : ℕ → Found → JournalRecord → ℕ
need area found r =
    if is_decision r then (if nat_lt (decisions found) standing_limit then length (record_octets r) + 10 else area + 1)
    else length (record_octets r)

-- so many octets are used and needed, which exceed the area together
abbrev pub HasNoRoom : ℕ → List ℕ → Found → JournalRecord → ℕ → ℕ → Type 0
HasNoRoom area octets found r u n = (u ≡ used octets found) × (n ≡ need area found r) × (area < u + n)

-- why there is no room for a record behind so many octets
abbrev pub IsRoomFault : ℕ → List ℕ → Found → JournalRecord → JournalFault → Type 0
IsRoomFault area octets found r DiskFault = ⊥
IsRoomFault area octets found r (Full u n) = HasNoRoom area octets found r u n
IsRoomFault area octets found r (BadHeader place) = ⊥
IsRoomFault area octets found r (BadRecord place) = ⊥
IsRoomFault area octets found r LivesSpent = ⊥
IsRoomFault area octets found r Memory = ⊥

-- one of the disk's images stands for these records
pub record MayHold (service : ℕ) (disk : DiskState) (rs : List JournalRecord) : Type 0 where
  pub image : List ℕ
  pub is_image : IsImage disk.present image
  pub stands : StandsFor service image rs

-- octets stand for records that leave what was found
abbrev pub LeavesFound : ℕ → List ℕ → Found → Type 0
LeavesFound service octets found = (rs : List JournalRecord) × (StandsFor service octets rs × (found ≡ found_in rs))

-- octets stand for records that the disk may hold
abbrev pub IsOld : ℕ → DiskState → List ℕ → Type 0
IsOld service disk octets = (rs : List JournalRecord) × (MayHold service disk rs × StandsFor service octets rs)

-- octets stand for records that the disk may hold, or for these and one more
abbrev pub IsOldOrMore : ℕ → DiskState → JournalRecord → List ℕ → Type 0
IsOldOrMore service disk r octets = (rs : List JournalRecord) × (MayHold service disk rs × StandsForEither service rs r octets)

-- a crash at any moment of a reading leaves the records of before
abbrev pub ReadIsSafe : ℕ → DiskState → DiskState → Type 0
ReadIsSafe service before after = LeavesOnlySince (IsOld service before) before after

-- a crash at any moment of an append leaves the records of before, or these and the new one
abbrev pub AppendIsSafe : ℕ → JournalRecord → DiskState → DiskState → Type 0
AppendIsSafe service r before after = LeavesOnlySince (IsOldOrMore service before r) before after

-- all is synced, and stands for records that the disk held
pub record ReadIsDone (service : ℕ) (before after : DiskState) : Type 0 where
  pub old : IsOld service before after.reads
  pub settled : IsSettled after

-- all is synced, and stands for records that the disk held and the new one
pub record AppendIsDone (service : ℕ) (r : JournalRecord) (before after : DiskState) : Type 0 where
  pub records : List JournalRecord
  pub held : MayHold service before records
  pub stands : StandsFor service after.reads (records ++ r ∷ [])
  pub settled : IsSettled after

-- the disk was read again: the journal has what it could find, and doubts nothing
pub record HasReread {D : Type 0} (before after : JournalState D) : Type 0 where
  pub area : after.area ≡ before.area
  pub service : after.service ≡ before.service
  pub known : MayHave before after.octets after.found
  pub failed : after.failed ≡ false
  pub doubted : after.doubted ≡ None

-- the disk was not read again, and the journal knows and doubts what it did
pub record IsUnread {D : Type 0} (before after : JournalState D) : Type 0 where
  pub area : after.area ≡ before.area
  pub service : after.service ≡ before.service
  pub octets : after.octets ≡ before.octets
  pub found : after.found ≡ before.found
  pub doubted : after.doubted ≡ before.doubted
  pub failed : after.failed ≡ true

-- the record may have been appended to what the journal knew
pub record IsUnsure {D : Type 0} (before : JournalState D) (r : JournalRecord) (after : JournalState D) : Type 0 where
  pub area : after.area ≡ before.area
  pub service : after.service ≡ before.service
  pub octets : after.octets ≡ before.octets
  pub found : after.found ≡ before.found
  pub doubted : after.doubted ≡ Some r
  pub failed : after.failed ≡ true

-- the record stands behind what the journal knew, at this place: it is the last of the journal's records
pub record HasMore {D : Type 0} (before after : JournalState D) (r : JournalRecord) (place : ℕ) : Type 0 where
  pub records : List JournalRecord
  pub were : AreRecords before.service before.octets before.found records
  pub place_is : place ≡ length before.octets
  pub area : after.area ≡ before.area
  pub service : after.service ≡ before.service
  pub octets_are : after.octets ≡ before.octets ++ record_octets r
  pub found_is : after.found ≡ with_record before.found (length before.octets) r
  pub are : AreRecords before.service after.octets after.found (records ++ r ∷ [])
  pub failed : after.failed ≡ false
  pub doubted : after.doubted ≡ None

-- why a disk was not read again, of one that was and is so, and whose count of faults was and is so; memory is wanted only where
-- it may be. One that tells its state reads what is expected
abbrev pub IsReadFault : Bool → Option DiskState → ℕ → ℕ → JournalFault → Type 0
IsReadFault wants told before after DiskFault = HasRisen before after
IsReadFault wants told before after (Full u n) = ⊥
IsReadFault wants told before after (BadHeader place) = told ≡ None
IsReadFault wants told before after (BadRecord place) = told ≡ None
IsReadFault wants told before after LivesSpent = ⊥
IsReadFault wants told before after Memory = IsTrue wants

-- why a record was not appended to such a disk. What is full is no cause of the disk
abbrev pub IsAppendFault : Bool → Option DiskState → ℕ → ℕ → JournalFault → Type 0
IsAppendFault wants told before after DiskFault = HasRisen before after
IsAppendFault wants told before after (Full u n) = Unit {0}
IsAppendFault wants told before after (BadHeader place) = told ≡ None
IsAppendFault wants told before after (BadRecord place) = told ≡ None
IsAppendFault wants told before after LivesSpent = ⊥
IsAppendFault wants told before after Memory = IsTrue wants

-- all is synced, and stands for records that the disk held, or for these and the Done
abbrev pub DoneIsDone : ℕ → ℕ → DiskState → DiskState → Type 0
DoneIsDone service place before after = AppendIsDone service (Done place) before after ⊎ (ReadIsSafe service before after × ReadIsDone service before after)
