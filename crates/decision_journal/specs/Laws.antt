-- What a crash can leave of a journal (our profile). The calls of a disk in an append, in the creation of a journal, and in
-- a load are written out; each image of each of their moments holds the records of before, or those and the new one.
use Rattle.std.specs.Prelude.{◌≡◌, ℕ, ◌+◌, ◌<◌, ◌≤◌, List, [], ◌∷◌, ◌++◌, length, drop, ◌==◌, Bool, true, IsTrue, if◌then◌else◌}
use Rattle.std.specs.List.{AllByRecursion}
use Rattle.ots_outside.specs.Disk.{DiskState, LeavesOnlySince, moments, synced, written}
use Rattle.decision_journal.specs.declared.record.JournalRecord.{JournalRecord}
use Rattle.decision_journal.specs.Limits.{area_limit}
use Rattle.decision_journal.specs.Layout.{record_octets, payload, Fits}
use Rattle.decision_journal.specs.Journal.{Meaning, Means, first_gate, StandsFor, StandsForEither, IsFresh, Holds, first_letter, header, front, can_follow, found_in}

-- these are octets
abbrev pub AreOctets : List ℕ → Type 0
AreOctets octets = AllByRecursion (λ octet. octet < 256) octets

-- octets stand for one list of records
abbrev pub OctetsStandForOneList : Type 0
OctetsStandForOneList = (service : ℕ) (octets : List ℕ) (rs more : List JournalRecord)
    → StandsFor service octets rs → StandsFor service octets more → rs ≡ more

-- octets mean one thing: where they stand for records, they break no rule, and their header is no other; where they don't, it
-- is for one reason, at one place
abbrev pub OctetsMeanOneThing : Type 0
OctetsMeanOneThing = (service : ℕ) (octets : List ℕ) (m n : Meaning) → Means service octets m → Means service octets n → m ≡ n

-- octets that are long enough for a header and a gate mean something
abbrev pub OctetsMeanSomething : Type 0
OctetsMeanSomething = (service : ℕ) (octets : List ℕ) → AreOctets octets → first_gate < length octets → (m : Meaning) × Means service octets m

-- a payload is that of one record
abbrev pub PayloadsTellRecords : Type 0
PayloadsTellRecords = (r s : JournalRecord) → Fits r → Fits s → payload r ≡ payload s → r ≡ s

-- all that a disk reads is synced
abbrev pub IsSettled : DiskState → Type 0
IsSettled disk = disk.present ≡ record { synced = disk.reads; writes = [] }

-- a record can be appended to these: it has octets, can follow them, and ends within the limit
pub record CanAppend (service : ℕ) (rs : List JournalRecord) (r : JournalRecord) : Type 0 where
  pub fits : Fits r
  pub follows : IsTrue (can_follow (found_in rs) r)
  pub within : length (front service (rs ++ r ∷ [])) < area_limit

-- the length, the payload and a closed gate
abbrev pub behind_gate : JournalRecord → List ℕ
behind_gate r = drop 1 (record_octets r) ++ 0 ∷ []

-- the disk before the gate of an append is written: octets behind it, and a sync
abbrev pub filled_behind : ℕ → List ℕ → DiskState → DiskState
filled_behind gate behind disk = synced (written (gate + 1) behind disk)

-- the disk after an append: octets behind the gate, a sync, the open gate, a sync
abbrev pub appended : ℕ → List ℕ → DiskState → DiskState
appended gate behind disk = synced (written gate (1 ∷ []) (filled_behind gate behind disk))

-- a crash before the gate is written leaves the records of before; at any moment of an append it leaves these, or these and the
-- new one; once it is done, the new one is there
abbrev pub AppendsAreSafe : Type 0
AppendsAreSafe = (service : ℕ) (rs : List JournalRecord) (r : JournalRecord) (disk : DiskState)
    → IsSettled disk → StandsFor service disk.reads rs → CanAppend service rs r
    → let gate = length (front service rs) in
    let after = appended gate (behind_gate r) disk in
    LeavesOnlySince (λ c. StandsFor service c rs) disk (filled_behind gate (behind_gate r) disk)
    × LeavesOnlySince (StandsForEither service rs r) disk after
    × StandsFor service after.reads (rs ++ r ∷ []) × IsSettled after

-- the first letter stands there, or nothing does
abbrev pub is_letter_due : List ℕ → Bool
is_letter_due [] = true
is_letter_due (octet ∷ octets) = octet == first_letter

-- the disk after the first letter was taken away, where it stands there or nothing does
abbrev pub cleared : DiskState → DiskState
cleared disk = if is_letter_due disk.reads then synced (written 0 (0 ∷ []) disk) else disk

-- all octets of an empty journal, but the first letter
abbrev pub behind_letter : ℕ → List ℕ
behind_letter service = drop 1 (header service) ++ 0 ∷ []

-- the disk after the creation of a journal: all but the first letter, with a closed gate, a sync, the letter, a sync
abbrev pub created : ℕ → DiskState → DiskState
created service disk = synced (written 0 (first_letter ∷ []) (synced (written 1 (behind_letter service) disk)))

-- a crash at any moment of the creation of a journal leaves octets without records; once it is done, they are a journal
abbrev pub CreationsAreSafe : Type 0
CreationsAreSafe = (service : ℕ) (disk : DiskState) → IsSettled disk → IsFresh disk.reads
    → let after = created service (cleared disk) in
    LeavesOnlySince (λ c. Holds service c []) disk after × StandsFor service after.reads [] × IsSettled after

-- a disk on the way from a start to an end: it has the moments of the end, but the last ones
pub record IsOnTheWay (start end now : DiskState) : Type 0 where
  pub left : ℕ
  pub within : left + length (moments start) ≤ length (moments end)
  pub moments_are : moments now ≡ drop left (moments end)
