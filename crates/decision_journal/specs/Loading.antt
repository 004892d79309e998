-- What a load of a journal leaves, and what it answers (our profile).
use Rattle.std.specs.Prelude.{◌≡◌, ℕ, ◌+◌, ◌-◌, ◌^◌, ◌<◌, ◌⊎◌, Bool, IsTrue, List, [], ◌∷◌, ◌++◌, length, Option, IfSome, if◌then◌else◌}
use Rattle.ots_outside.specs.Disk.{DiskState, IsImage, LeavesOnly, LeavesOnlySince, synced}
use Rattle.ots_outside.specs.Source.{HasRisen}
use Rattle.decision_journal.specs.declared.journal.JournalFault.{JournalFault}
use Rattle.decision_journal.specs.declared.journal.JournalFault.TheVariants.{DiskFault, Full, BadHeader, BadRecord, LivesSpent, Memory}
use Rattle.decision_journal.specs.declared.record.JournalRecord.{JournalRecord}
use Rattle.decision_journal.specs.declared.record.JournalRecord.TheVariants.{Life}
use Rattle.decision_journal.specs.Journal.{Found, AreRecords, Holds, IsBroken, IsFresh, IsOtherHeader, StandsFor, found_in, front, is_fresh}
use Rattle.decision_journal.specs.Laws.{CanAppend, IsOnTheWay, IsSettled, appended, behind_gate, cleared, created}
use Rattle.decision_journal.specs.State.{IsAtRest, used}
use Rattle.decision_journal.specs.Calls.{IsUnwritten}

-- the octets hold some records
abbrev pub IsHeld : ℕ → List ℕ → Type 0
IsHeld service octets = (rs : List JournalRecord) × Holds service octets rs

-- one of the disk's images holds these records
pub record CanHold (service : ℕ) (disk : DiskState) (rs : List JournalRecord) : Type 0 where
  pub image : List ℕ
  pub is_image : IsImage disk.present image
  pub holds : Holds service image rs

-- the record that begins the next life
abbrev pub next_life : List JournalRecord → JournalRecord
next_life rs = Life ((found_in rs).life + 1)

-- octets hold records that the disk could hold, or stand for these and the next life
abbrev pub IsHeldOrBegun : ℕ → DiskState → List ℕ → Type 0
IsHeldOrBegun service disk octets =
    (rs : List JournalRecord) × (CanHold service disk rs × (Holds service octets rs ⊎ StandsFor service octets (rs ++ next_life rs ∷ [])))

-- where a crash before it leaves records, a crash at any moment of a load leaves these, or these and the next life
abbrev pub LoadIsSafe : ℕ → DiskState → DiskState → Type 0
LoadIsSafe service before after = LeavesOnly (IsHeld service) before.present → LeavesOnlySince (IsHeldOrBegun service before) before after

-- the disk after a journal was made of it, where it is not yet one
abbrev pub readied : ℕ → DiskState → DiskState
readied service disk = if is_fresh disk.reads then created service (cleared disk) else disk

-- the disk after a load of these records: a sync, the creation where it is due, and the append of the next life
abbrev pub loaded : ℕ → List JournalRecord → DiskState → DiskState
loaded service rs disk = appended (length (front service rs)) (behind_gate (next_life rs)) (readied service (synced disk))

-- where a crash before it leaves records, a crash at any moment of a load leaves these, or these and the next life; once it is
-- done, the next life is there
abbrev pub LoadsAreSafe : Type 0
LoadsAreSafe = (service : ℕ) (rs : List JournalRecord) (disk : DiskState)
    → LeavesOnly (IsHeld service) disk.present → IsImage disk.present disk.reads
    → Holds service disk.reads rs → CanAppend service rs (next_life rs)
    → let after = loaded service rs disk in
    LeavesOnlySince (IsHeldOrBegun service disk) disk after
    × StandsFor service after.reads (rs ++ next_life rs ∷ []) × IsSettled after

-- the records that the disk read were loaded: all is synced, and stands for these and the next life
pub record LoadIsDone (service : ℕ) (before after : DiskState) : Type 0 where
  pub records : List JournalRecord
  pub held : Holds service before.reads records
  pub disk : after ≡ loaded service records before
  pub stands : StandsFor service after.reads (records ++ next_life records ∷ [])
  pub settled : IsSettled after

-- a disk was read, and made a journal where it was none: these are the octets of the records that it read
pub record IsStarted (service : ℕ) (octets : List ℕ) (found : Found) (before after : DiskState) : Type 0 where
  pub records : List JournalRecord
  pub held : Holds service before.reads records
  pub are : AreRecords service octets found records
  pub rest : IsAtRest octets after
  pub image : IsImage before.present before.reads

-- nothing was written, or a load of the records that the disk read was begun
abbrev pub HasBegunLoad : ℕ → DiskState → DiskState → Type 0
HasBegunLoad service before after =
    IsUnwritten before after ⊎ ((rs : List JournalRecord) × (Holds service before.reads rs × IsOnTheWay before (loaded service rs before) after))

-- what a refused load makes of its disk. Octets that are no journal of this service, and one without a life left, stay as
-- they are; and so does what has no room for a life, but that it is made a journal
abbrev pub IsRefusedLoad : ℕ → JournalFault → DiskState → DiskState → Type 0
IsRefusedLoad service DiskFault before after = HasBegunLoad service before after
IsRefusedLoad service (Full u n) before after = after ≡ readied service (synced before)
IsRefusedLoad service (BadHeader place) before after = after ≡ synced before
IsRefusedLoad service (BadRecord place) before after = after ≡ synced before
IsRefusedLoad service LivesSpent before after = after ≡ synced before
IsRefusedLoad service Memory before after = HasBegunLoad service before after

-- the last of all lives
abbrev pub last_life : ℕ
last_life = 2 ^ 32 - 1

-- why a disk that was so was not loaded, and whose count of faults was and is so
abbrev pub IsLoadFault : ℕ → ℕ → Option DiskState → ℕ → ℕ → JournalFault → Type 0
IsLoadFault area service told before after DiskFault = HasRisen before after
IsLoadFault area service told before after (Full u n) = (area < u + n) × (n ≡ 10) × IfSome told
    (λ disk. (rs : List JournalRecord) × (Holds service disk.reads rs × ((found_in rs).life < last_life) × (u ≡ used (front service rs) (found_in rs))))
IsLoadFault area service told before after (BadHeader place) =
    IfSome told (λ disk. (IsFresh disk.reads → ⊥) × IsOtherHeader service disk.reads place)
IsLoadFault area service told before after (BadRecord place) =
    IfSome told (λ disk. (IsFresh disk.reads → ⊥) × IsBroken service disk.reads place)
IsLoadFault area service told before after LivesSpent =
    IfSome told (λ disk. (rs : List JournalRecord) × (Holds service disk.reads rs × ((found_in rs).life ≡ last_life)))
IsLoadFault area service told before after Memory = Unit {0}

-- why a disk was not written, whose count of faults was and is so; memory is wanted only where it may be
abbrev pub IsDiskFault : Bool → ℕ → ℕ → JournalFault → Type 0
IsDiskFault wants before after DiskFault = HasRisen before after
IsDiskFault wants before after (Full u n) = ⊥
IsDiskFault wants before after (BadHeader place) = ⊥
IsDiskFault wants before after (BadRecord place) = ⊥
IsDiskFault wants before after LivesSpent = ⊥
IsDiskFault wants before after Memory = IsTrue wants

-- why a disk that was so was neither read nor made a journal
abbrev pub IsStartFault : ℕ → Option DiskState → ℕ → ℕ → JournalFault → Type 0
IsStartFault service told before after DiskFault = HasRisen before after
IsStartFault service told before after (Full u n) = ⊥
IsStartFault service told before after (BadHeader place) =
    IfSome told (λ disk. (IsFresh disk.reads → ⊥) × IsOtherHeader service disk.reads place)
IsStartFault service told before after (BadRecord place) =
    IfSome told (λ disk. (IsFresh disk.reads → ⊥) × IsBroken service disk.reads place)
IsStartFault service told before after LivesSpent = ⊥
IsStartFault service told before after Memory = Unit {0}
