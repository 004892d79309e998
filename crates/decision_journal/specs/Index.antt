-- How what stands is found fast: it stands in the order of its places, and its decisions are counted. While a journal is
-- read, a Done stands in the stead of what it names, so that nothing has to be moved. Of all this the contracts of a journal
-- speak of the order alone.
use Rattle.std.specs.Prelude.{◌≡◌, ℕ, ◌<◌, Bool, true, false, not, List}
use Rattle.std.specs.List.{All, AllPairs, count_by, filter}
use Rattle.decision_journal.specs.declared.journal.Standing.{Standing}
use Rattle.decision_journal.specs.declared.record.JournalRecord.{JournalRecord}
use Rattle.decision_journal.specs.declared.record.JournalRecord.TheVariants.{Life, Decision, Done, Prepared, CellsPrepared, CellsOutcome, CellsOnePhase}
use Rattle.decision_journal.specs.Journal.{Found, is_decision}

-- each stands at a place above those of the ones before it
abbrev pub AreInOrder : List Standing → Type 0
AreInOrder = AllPairs (λ s t. s.place < t.place)

-- each stands before this place
abbrev pub AreBefore : ℕ → List Standing → Type 0
AreBefore place = All (λ s. s.place < place)

-- they are in order, and so many of them are decisions or prepared records
pub record IsIndexed (standing : List Standing) (decisions : ℕ) : Type 0 where
  pub order : AreInOrder standing
  pub count : decisions ≡ count_by (λ s. is_decision s.item) standing

-- what stands, in order, for how many more there is room, and how much of that is before what stands
pub record Lined : Type 0 where
  pub standing : List Standing
  pub spare : ℕ
  pub gone : ℕ

abbrev pub is_done : JournalRecord → Bool
is_done (Life life) = false
is_done (Decision life slot generation k asked regs) = false
is_done (Done place) = true
is_done (Prepared life slot generation recovery regs) = false
is_done (CellsPrepared life number recovery ps) = false
is_done (CellsOutcome place end) = false
is_done (CellsOnePhase life number ps) = false

-- it stands for itself, and not in the stead of what is done
abbrev pub is_left : Standing → Bool
is_left s = not (is_done s.item)

-- what was found, without what is done
abbrev pub left : Found → Found
left found = record { life = found.life; standing = filter is_left found.standing }
