-- What one more record does to a journal, and that its octets are read again (our profile).
use Rattle.std.specs.Prelude.{◌≡◌, ℕ, ◌+◌, ◌<◌, ◌≤◌, ◌^◌, IsTrue, List, [], ◌∷◌, ◌++◌, length, drop, Some}
use Rattle.std.specs.List.{list_any}
use Rattle.decision_journal.specs.declared.record.JournalRecord.{JournalRecord}
use Rattle.decision_journal.specs.declared.record.JournalRecord.TheVariants.{Done}
use Rattle.decision_journal.specs.Layout.{Fits, payload, record_octets}
use Rattle.decision_journal.specs.Journal.{found_in, front, is_decision_at, with_record}
use Rattle.decision_journal.specs.Reading.{body_at}
use Rattle.decision_journal.specs.State.{need, used}

pub record JournalsGrow : Type 0 where
  -- it is found behind those of before
  pub added : (service : ℕ) (rs : List JournalRecord) (r : JournalRecord)
      → found_in (rs ++ r ∷ []) ≡ with_record (found_in rs) (length (front service rs)) r
  -- one for which there is room leaves what is used within the area
  pub room : (area service : ℕ) (rs : List JournalRecord) (r : JournalRecord)
      → used (front service rs) (found_in rs) + need area (found_in rs) r ≤ area
      → used (front service (rs ++ r ∷ [])) (found_in (rs ++ r ∷ [])) ≤ area
  -- a Done takes no more than its decision left for it
  pub dones : (service place : ℕ) (rs : List JournalRecord) → IsTrue (list_any (is_decision_at place) (found_in rs).standing)
      → used (front service (rs ++ Done place ∷ [])) (found_in (rs ++ Done place ∷ [])) ≤ used (front service rs) (found_in rs)

-- behind its gate a record is read again, whatever follows it
abbrev pub BodiesAreRead : Type 0
BodiesAreRead = (r : JournalRecord) (rest : List ℕ) → Fits r → length (payload r) < 2 ^ 32
    → body_at (drop 1 (record_octets r) ++ rest) ≡ Some (r, rest)
