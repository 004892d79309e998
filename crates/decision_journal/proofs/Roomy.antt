-- The room that a journal keeps, in its calls.
use Rattle.std.proofs.Common.{◌≡◌, ℕ, ◌+◌, ◌<◌, ◌≤◌, Option, Some, None, refl, sym, subst, arith}
use Rattle.std.specs.Prelude.{IsTrue}
use Rattle.decision_journal.specs.declared.record.JournalRecord.{JournalRecord}
use Rattle.decision_journal.specs.declared.record.JournalRecord.TheVariants.{Life, Decision, Done, Prepared, CellsPrepared, CellsOutcome, CellsOnePhase}
use Rattle.decision_journal.specs.Limits.{piece_length, standing_limit}
use Rattle.decision_journal.specs.Journal.{is_decision}
use Rattle.decision_journal.specs.State.{cells_in, decisions}
use Rattle.decision_journal.specs.Room.{IsRoomy, Stock, stands_in}

module _ (area capacity piece : ℕ) (stock : Stock) where
  -- with more room for octets, and a piece
  pub roomy_more : (doubted : Option JournalRecord) (room more other : ℕ) → capacity ≤ more → other ≡ piece_length → IsRoomy area capacity piece stock doubted room → IsRoomy area more other stock doubted room
  roomy_more doubted room more other le some r = record { octets = omega (arith, le, r.octets); pieces = some; spare = r.spare; records = r.records }

  -- no record is in doubt any more
  pub roomy_known : (doubted d : Option JournalRecord) (room : ℕ) → d ≡ None → IsRoomy area capacity piece stock doubted room → IsRoomy area capacity piece stock d room
  roomy_known doubted d room is r = subst (λ (d : Option JournalRecord). IsRoomy area capacity piece stock d room) (sym is)
      (record { octets = r.octets; pieces = r.pieces; spare = omega (arith, r.spare); records = omega (arith, r.records) })

  -- a record is in doubt
  pub roomy_doubt : (room left : ℕ) (item : JournalRecord) → left + cells_in item ≡ room → (IsTrue (is_decision item) → decisions stock.found < standing_limit) → IsRoomy area capacity piece stock None room → IsRoomy area capacity piece stock (Some item) left
  roomy_doubt room left (Life life) is few r = record { octets = r.octets; pieces = r.pieces; spare = omega (arith, r.spare, is); records = omega (arith, r.records, is) }
  roomy_doubt room left (Decision life slot generation k asked regs) is few r = record { octets = r.octets; pieces = r.pieces; spare = omega (arith, r.records, is, few refl); records = omega (arith, r.records, is) }
  roomy_doubt room left (Done place) is few r = record { octets = r.octets; pieces = r.pieces; spare = omega (arith, r.spare, is); records = omega (arith, r.records, is) }
  roomy_doubt room left (Prepared life slot generation recovery regs) is few r = record { octets = r.octets; pieces = r.pieces; spare = omega (arith, r.records, is, few refl); records = omega (arith, r.records, is) }
  roomy_doubt room left (CellsPrepared life number recovery ps) is few r = record { octets = r.octets; pieces = r.pieces; spare = omega (arith, r.spare, is); records = omega (arith, r.records, is) }
  roomy_doubt room left (CellsOutcome place end) is few r = record { octets = r.octets; pieces = r.pieces; spare = omega (arith, r.spare, is); records = omega (arith, r.records, is) }
  roomy_doubt room left (CellsOnePhase life number ps) is few r = record { octets = r.octets; pieces = r.pieces; spare = omega (arith, r.spare, is); records = omega (arith, r.records, is) }

  -- a record is in doubt where none was, and there is more room for octets
  pub roomy_unsure : (more : ℕ) (doubted d : Option JournalRecord) (room left : ℕ) (item : JournalRecord) → capacity ≤ more → doubted ≡ None → d ≡ Some item → left + cells_in item ≡ room
      → (IsTrue (is_decision item) → decisions stock.found < standing_limit) → IsRoomy area capacity piece stock doubted room → IsRoomy area more piece stock d left
  roomy_unsure more doubted d room left item le none some is few r = subst (λ (d : Option JournalRecord). IsRoomy area more piece stock d left) (sym some)
      (roomy_more (Some item) left more piece le r.pieces (roomy_doubt room left item is few (subst (λ (d : Option JournalRecord). IsRoomy area capacity piece stock d room) none r)))

  -- it was added
  pub roomy_added : (room : ℕ) (item : JournalRecord) (after : Stock) (d : Option JournalRecord) → d ≡ None → stock.spare ≤ after.spare + stands_in item → decisions stock.found + stock.spare ≤ decisions after.found + after.spare + cells_in item
      → IsRoomy area capacity piece stock (Some item) room → IsRoomy area capacity piece after d room
  roomy_added room item after d is spare sum r = subst (λ (d : Option JournalRecord). IsRoomy area capacity piece after d room) (sym is)
      (record { octets = r.octets; pieces = r.pieces; spare = omega (arith, r.spare, spare); records = omega (arith, r.records, sum) })
