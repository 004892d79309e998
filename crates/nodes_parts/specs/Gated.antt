-- Where the records of a journal stand among octets (our profile).
use Rattle.std.specs.Prelude.{◌≡◌, ℕ, ◌+◌, ◌≤◌, ◌==◌, nat_lt, List, [], ◌∷◌, ◌++◌, length, Option, Some, None, if◌then◌else◌}
use Rattle.std.specs.List.{flat_map}
use Rattle.byteorder.specs.Endian.{big_number}
use Rattle.decision_journal.specs.Journal.{first_gate}
use Rattle.decision_journal.specs.Layout.{record_octets}
use Rattle.decision_journal.specs.Limits.{area_limit}
use Rattle.decision_journal.specs.declared.record.JournalRecord.{JournalRecord}

-- the octets of some records
abbrev pub octets_of : List JournalRecord → List ℕ
octets_of some = flat_map record_octets some

-- the place behind records that stand from the first gate on
abbrev pub place_behind : List JournalRecord → ℕ
place_behind rs = first_gate + length (octets_of rs)

-- octets in front of the first gate, records, and a gate that isn't open
pub record HoldsRecords (octets : List ℕ) (rs : List JournalRecord) : Type 0 where
  pub front : List ℕ
  pub gate : ℕ
  pub behind : List ℕ
  pub first : length front ≡ first_gate
  pub octets_are : octets ≡ front ++ (octets_of rs ++ gate ∷ behind)
  pub closed : ¬ (gate ≡ 1)
  pub within : place_behind rs ≤ area_limit

-- of octets that hold records, that is the gate behind them
abbrev pub IsEndGate : List ℕ → ℕ → Type 0
IsEndGate octets gate = (rs : List JournalRecord) → HoldsRecords octets rs → gate ≡ place_behind rs

-- and that is the gate of the last of them
abbrev pub IsLastGate : List ℕ → ℕ → Type 0
IsLastGate octets gate = (before : List JournalRecord) (r : JournalRecord) → HoldsRecords octets (before ++ r ∷ []) → gate ≡ place_behind before

-- the place behind a record whose length stands first in these octets, which begin at a place
abbrev pub record_end : ℕ → List ℕ → Option ℕ
record_end place octets = if nat_lt (length octets) 4 then None else Some (place + 4 + big_number 4 octets)

-- the gate behind the record of an open gate at the front of these
abbrev pub gate_behind : ℕ → List ℕ → Option ℕ
gate_behind gate [] = None
gate_behind gate (first ∷ behind) = if first == 1 then record_end (gate + 1) behind else None
