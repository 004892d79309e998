-- What the octets of a journal stand for (our profile). A journal is a header, records with open gates, and a gate that
-- isn't open; what stands behind that gate doesn't count. A gate is open where it is 1.
use Rattle.std.specs.Prelude.{◌≡◌, ◌≢◌, ◌↔◌, ℕ, ◌+◌, ◌-◌, ◌<◌, ◌≤◌, ◌⊎◌, ◌==◌, nat_lt, not, Bool, true, false, ◌&&◌, ◌||◌, List, [], ◌∷◌, ◌++◌, length, drop, slice_index, position, Option, Some, None, IsTrue}
use Rattle.std.specs.List.{flat_map, list_any, remove, AllByRecursion}
use Rattle.decision_journal.specs.declared.record.JournalRecord.{JournalRecord}
use Rattle.decision_journal.specs.declared.record.JournalRecord.TheVariants.{Life, Decision, Done, Prepared, CellsPrepared, CellsOutcome, CellsOnePhase}
use Rattle.decision_journal.specs.declared.journal.JournalFault.{JournalFault}
use Rattle.decision_journal.specs.declared.journal.JournalFault.TheVariants.{DiskFault, Full, BadHeader, BadRecord, LivesSpent, Memory}
use Rattle.decision_journal.specs.declared.journal.Standing.{Standing}
use Rattle.decision_journal.specs.Limits.{area_limit}
use Rattle.decision_journal.specs.Layout.{four, eight, record_octets, Fits}

-- the letter O
abbrev pub first_letter : ℕ
first_letter = 79

-- the letters OTSJ, version 1, and the number of the service
abbrev pub header : ℕ → List ℕ
header service = first_letter ∷ 84 ∷ 83 ∷ 74 ∷ (four 1 ++ eight service)

-- what stands before the gate at the end
abbrev pub front : ℕ → List JournalRecord → List ℕ
front service rs = header service ++ flat_map record_octets rs

-- the place of the first gate, behind the header
abbrev pub first_gate : ℕ
first_gate = 16

-- what records leave behind them: the life, and what stands, in order
pub record Found : Type 0 where
  pub life : ℕ
  pub standing : List Standing

abbrev pub nothing_found : Found
nothing_found = record { life = 0; standing = [] }

-- a decision or prepared record, which stands until a Done names it
abbrev pub is_decision : JournalRecord → Bool
is_decision (Life life) = false
is_decision (Decision life slot generation k asked regs) = true
is_decision (Done place) = false
is_decision (Prepared life slot generation recovery regs) = true
is_decision (CellsPrepared life number recovery ps) = false
is_decision (CellsOutcome place end) = false
is_decision (CellsOnePhase life number ps) = false

-- prepared cells, which an outcome can name
abbrev pub is_cells_prepared : JournalRecord → Bool
is_cells_prepared (Life life) = false
is_cells_prepared (Decision life slot generation k asked regs) = false
is_cells_prepared (Done place) = false
is_cells_prepared (Prepared life slot generation recovery regs) = false
is_cells_prepared (CellsPrepared life number recovery ps) = true
is_cells_prepared (CellsOutcome place end) = false
is_cells_prepared (CellsOnePhase life number ps) = false

abbrev pub is_decision_at : ℕ → Standing → Bool
is_decision_at place s = s.place == place && is_decision s.item

abbrev pub are_cells_at : ℕ → Standing → Bool
are_cells_at place s = s.place == place && is_cells_prepared s.item

-- without the one at this index
abbrev pub taken_away : Option ℕ → List Standing → List Standing
taken_away None standing = standing
taken_away (Some index) standing = remove standing index

-- with a record whose gate is at this place: a Life begins the next life, a Done takes away what it names, and each other
-- record stands; those of cells stand for good
abbrev pub with_record : Found → ℕ → JournalRecord → Found
with_record found place (Life life) = record { life = life; standing = found.standing }
with_record found place (Decision life slot generation k asked regs) =
    record { life = found.life; standing = found.standing ++ record { place = place; item = Decision life slot generation k asked regs } ∷ [] }
with_record found place (Done named) =
    record { life = found.life; standing = taken_away (position (is_decision_at named) found.standing) found.standing }
with_record found place (Prepared life slot generation recovery regs) =
    record { life = found.life; standing = found.standing ++ record { place = place; item = Prepared life slot generation recovery regs } ∷ [] }
with_record found place (CellsPrepared life number recovery ps) =
    record { life = found.life; standing = found.standing ++ record { place = place; item = CellsPrepared life number recovery ps } ∷ [] }
with_record found place (CellsOutcome named end) =
    record { life = found.life; standing = found.standing ++ record { place = place; item = CellsOutcome named end } ∷ [] }
with_record found place (CellsOnePhase life number ps) =
    record { life = found.life; standing = found.standing ++ record { place = place; item = CellsOnePhase life number ps } ∷ [] }

-- with records, the first of which has its gate at this place
abbrev pub with_records : Found → ℕ → List JournalRecord → Found
with_records found place [] = found
with_records found place (r ∷ rs) = with_records (with_record found place r) (place + length (record_octets r)) rs

-- what the records of a journal leave
abbrev pub found_in : List JournalRecord → Found
found_in rs = with_records nothing_found first_gate rs

-- whether a record can follow: the next life, a Done of one that stands, an outcome of cells that were prepared, or any other
abbrev pub can_follow : Found → JournalRecord → Bool
can_follow found (Life life) = life == found.life + 1
can_follow found (Decision life slot generation k asked regs) = true
can_follow found (Done place) = list_any (is_decision_at place) found.standing
can_follow found (Prepared life slot generation recovery regs) = true
can_follow found (CellsPrepared life number recovery ps) = true
can_follow found (CellsOutcome place end) = list_any (are_cells_at place) found.standing
can_follow found (CellsOnePhase life number ps) = true

-- each of these can follow those before it
abbrev pub AreInTurn : Found → ℕ → List JournalRecord → Type 0
AreInTurn found place [] = Unit {0}
AreInTurn found place (r ∷ rs) =
    IsTrue (can_follow found r) × AreInTurn (with_record found place r) (place + length (record_octets r)) rs

-- the octets stand for these records, up to the first gate that isn't open
pub record StandsFor (service : ℕ) (octets : List ℕ) (rs : List JournalRecord) : Type 0 where
  pub gate : ℕ
  pub behind : List ℕ
  pub octets_are : octets ≡ front service rs ++ gate ∷ behind
  pub closed : gate ≢ 1
  pub fit : AllByRecursion Fits rs
  pub in_turn : AreInTurn nothing_found first_gate rs
  pub within : length (front service rs) < area_limit

-- octets that are not yet a journal: fewer than 17, or 17 whose first isn't the letter
abbrev pub IsFresh : List ℕ → Type 0
IsFresh octets = (length octets < 17) ⊎ ((length octets ≡ 17) × (slice_index octets 0 ≢ first_letter))

-- whether octets are not yet a journal
abbrev pub is_fresh : List ℕ → Bool
is_fresh octets = nat_lt (length octets) 17 || (length octets == 17 && not (slice_index octets 0 == first_letter))

-- the octets hold these records: they stand for them, or they are not yet a journal and there are none
abbrev pub Holds : ℕ → List ℕ → List JournalRecord → Type 0
Holds service octets rs = StandsFor service octets rs ⊎ (IsFresh octets × (rs ≡ []))

-- the octets stand for these records, or for them and one more
abbrev pub StandsForEither : ℕ → List JournalRecord → JournalRecord → List ℕ → Type 0
StandsForEither service rs r octets = StandsFor service octets rs ⊎ StandsFor service octets (rs ++ r ∷ [])

-- records fill octets up to a gate: these are the header and the records, which fit and come in turn
pub record AreRecords (service : ℕ) (octets : List ℕ) (found : Found) (rs : List JournalRecord) : Type 0 where
  pub octets_are : octets ≡ front service rs
  pub fit : AllByRecursion Fits rs
  pub in_turn : AreInTurn nothing_found first_gate rs
  pub within : length (front service rs) < area_limit
  pub found_is : found ≡ found_in rs

-- octets up to a gate are a header and records, which leave what was found
abbrev pub IsFilled : ℕ → List ℕ → Found → Type 0
IsFilled service octets found = (rs : List JournalRecord) × AreRecords service octets found rs

-- behind the open gate at this place stands a record that can follow what was found, with a gate behind it within the limit,
-- and then the rest
pub record IsStep (gate : ℕ) (behind : List ℕ) (before after : Found) (rest : List ℕ) : Type 0 where
  pub item : JournalRecord
  pub fits : Fits item
  pub follows : IsTrue (can_follow before item)
  pub octets_are : behind ≡ drop 1 (record_octets item) ++ rest
  pub more : 0 < length rest
  pub within : gate + length (record_octets item) < area_limit
  pub after_is : after ≡ with_record before gate item

-- the rest has a gate, and it is within the limit
abbrev pub IsWithin : ℕ → List ℕ → List ℕ → Type 0
IsWithin gate behind rest = (0 < length rest) × (gate + (1 + (length behind - length rest)) < area_limit)

-- no record does
abbrev pub HasNoStep : ℕ → List ℕ → Found → Type 0
HasNoStep gate behind found = (r : JournalRecord) (end : ℕ) (rest : List ℕ) → Fits r → IsTrue (can_follow found r)
    → behind ≡ drop 1 (record_octets r) ++ end ∷ rest → gate + length (record_octets r) < area_limit → ⊥

-- the octets stand for nothing: behind records, at this place, is an open gate, and no record stands there that can follow
pub record IsBroken (service : ℕ) (octets : List ℕ) (place : ℕ) : Type 0 where
  pub before : List ℕ
  pub found : Found
  pub behind : List ℕ
  pub octets_are : octets ≡ before ++ 1 ∷ behind
  pub place_is : place ≡ length before
  pub filled : IsFilled service before found
  pub none : HasNoStep place behind found

-- the octets are records, and a rest that begins with a gate that isn't open
pub record IsScanned (service : ℕ) (octets : List ℕ) (found : Found) (rest : List ℕ) : Type 0 where
  pub before : List ℕ
  pub octets_are : octets ≡ before ++ rest
  pub filled : IsFilled service before found
  pub gate : ℕ
  pub behind : List ℕ
  pub rest_is : rest ≡ gate ∷ behind
  pub closed : gate ≢ 1

-- the header of octets is another from this place on
pub record IsOtherHeader (service : ℕ) (octets : List ℕ) (place : ℕ) : Type 0 where
  pub same : (k : ℕ) → k < place → slice_index octets k ≡ slice_index (header service) k
  pub differs : slice_index octets place ≢ slice_index (header service) place
  pub within : place < first_gate

-- why octets stand for nothing
abbrev pub IsScanFault : ℕ → List ℕ → JournalFault → Type 0
IsScanFault service octets DiskFault = ⊥
IsScanFault service octets (Full used need) = ⊥
IsScanFault service octets (BadHeader place) = IsOtherHeader service octets place
IsScanFault service octets (BadRecord place) = IsBroken service octets place
IsScanFault service octets LivesSpent = ⊥
IsScanFault service octets Memory = Unit {0}

-- a fault of a disk, or of memory
abbrev pub IsOfDisk : JournalFault → Type 0
IsOfDisk DiskFault = Unit {0}
IsOfDisk (Full used need) = ⊥
IsOfDisk (BadHeader place) = ⊥
IsOfDisk (BadRecord place) = ⊥
IsOfDisk LivesSpent = ⊥
IsOfDisk Memory = Unit {0}

-- octets begin with these, and then comes a gate that isn't open
pub record StandsAt (before octets : List ℕ) : Type 0 where
  pub gate : ℕ
  pub behind : List ℕ
  pub octets_are : octets ≡ before ++ gate ∷ behind
  pub closed : gate ≢ 1

-- the first place at which octets are not those that are known, or the end of either
pub record IsFirstOther (known read : List ℕ) (place : ℕ) : Type 0 where
  pub same : (k : ℕ) → k < place → slice_index read k ≡ slice_index known k
  pub within : (place ≤ length known) × (place ≤ length read)
  pub differs : place < length known → place < length read → slice_index read place ≢ slice_index known place

-- octets that were read are those that are known up to this place, and it is told whether there is a gate that isn't open
pub record IsAlong (known read : List ℕ) (same : ℕ) (closed : Bool) : Type 0 where
  pub first : IsFirstOther known read same
  pub gate : IsTrue closed ↔ ((same < length read) × (slice_index read same ≢ 1))

-- octets are too few for a journal, or stand for records
abbrev pub HasNoScanFault : ℕ → List ℕ → Type 0
HasNoScanFault service octets = (length octets < 17) ⊎ ((rs : List JournalRecord) × StandsFor service octets rs)

-- why octets that were read are not those that are known: they stand for nothing, or else the first place that differs
abbrev pub IsOther : ℕ → List ℕ → List ℕ → JournalFault → Type 0
IsOther service known read DiskFault = ⊥
IsOther service known read (Full used need) = ⊥
IsOther service known read (BadHeader place) =
    ((first_gate < length read) × IsOtherHeader service read place) ⊎ (HasNoScanFault service read × IsFirstOther known read place × (place < first_gate))
IsOther service known read (BadRecord place) = IsBroken service read place ⊎ (HasNoScanFault service read × IsFirstOther known read place × (first_gate ≤ place))
IsOther service known read LivesSpent = ⊥
IsOther service known read Memory = Unit {0}

-- what octets can mean: records, or the place where they break a rule, or the place from which their header is another
pub data Meaning : Type 0 where
  Records : List JournalRecord → Meaning
  Broken : ℕ → Meaning
  OtherHeader : ℕ → Meaning

-- octets mean this
abbrev pub Means : ℕ → List ℕ → Meaning → Type 0
Means service octets (Records rs) = StandsFor service octets rs
Means service octets (Broken place) = IsBroken service octets place
Means service octets (OtherHeader place) = IsOtherHeader service octets place
