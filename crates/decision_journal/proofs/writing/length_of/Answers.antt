use Rattle.std.proofs.Common.{ap, arith, length}
use Rattle.std.specs.List.{concat}
use Rattle.decision_journal.specs.Layout.{fields}
use Rattle.decision_journal.proofs.Lengths.{cells_length, one_phase_length}
use Rattle.decision_journal.proofs.writing.length_of.Goals as goal

pub returns-in-CellsPrepared-clause-length : goal.returns-in-CellsPrepared-clause-length
returns-in-CellsPrepared-clause-length c =
    omega (arith, ap (λ r. length (concat (fields r))) c.in-CellsPrepared.is, cells_length c.in-CellsPrepared.field-0 c.in-CellsPrepared.field-1 c.in-CellsPrepared.recovery c.in-CellsPrepared.items, ap length c.bytes-in-CellsPrepared.ensures.same, ap length c.items-in-CellsPrepared.ensures.same)

pub returns-in-CellsOnePhase-clause-length : goal.returns-in-CellsOnePhase-clause-length
returns-in-CellsOnePhase-clause-length c =
    omega (arith, ap (λ r. length (concat (fields r))) c.in-CellsOnePhase.is, one_phase_length c.in-CellsOnePhase.field-0 c.in-CellsOnePhase.field-1 c.in-CellsOnePhase.items, ap length c.items-in-CellsOnePhase.ensures.same)
