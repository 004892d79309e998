-- The room that a journal keeps, so that its calls need no memory. Its contracts speak of the room for records of cells alone.
use Rattle.std.specs.Prelude.{◌≡◌, ℕ, ◌+◌, ◌≤◌, Option, Some, None}
use Rattle.decision_journal.specs.declared.record.JournalRecord.{JournalRecord}
use Rattle.decision_journal.specs.declared.record.JournalRecord.TheVariants.{Life, Decision, Done, Prepared, CellsPrepared, CellsOutcome, CellsOnePhase}
use Rattle.decision_journal.specs.Limits.{piece_length, standing_limit}
use Rattle.decision_journal.specs.Journal.{Found}
use Rattle.decision_journal.specs.State.{cells_in, decisions}

-- what was found, and for how many more that stand there is room
pub record Stock : Type 0 where
  pub found : Found
  pub spare : ℕ

-- how many stand of a record: one, or none of a Life or a Done
abbrev pub stands_in : JournalRecord → ℕ
stands_in (Life life) = 0
stands_in (Decision life slot generation k asked regs) = 1
stands_in (Done place) = 0
stands_in (Prepared life slot generation recovery regs) = 1
stands_in (CellsPrepared life number recovery ps) = 1
stands_in (CellsOutcome place end) = 1
stands_in (CellsOnePhase life number ps) = 1

-- the same of a record in doubt
abbrev pub stands_in_doubt : Option JournalRecord → ℕ
stands_in_doubt None = 0
stands_in_doubt (Some r) = stands_in r

abbrev pub cells_in_doubt : Option JournalRecord → ℕ
cells_in_doubt None = 0
cells_in_doubt (Some r) = cells_in r

-- the room that a journal keeps: for the octets of its area, a piece of 65,536 to read into, and for so many records of cells, the one
-- in doubt, and all decisions that may stand
pub record IsRoomy (area capacity piece : ℕ) (stock : Stock) (doubted : Option JournalRecord) (room : ℕ) : Type 0 where
  pub octets : area ≤ capacity
  pub pieces : piece ≡ piece_length
  pub spare : room + stands_in_doubt doubted ≤ stock.spare
  pub records : standing_limit + room + cells_in_doubt doubted ≤ decisions stock.found + stock.spare
