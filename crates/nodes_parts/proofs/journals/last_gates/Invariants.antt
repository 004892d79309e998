use Rattle.std.proofs.Common.{◌-◌, List, length}
use Rattle.decision_journal.specs.declared.record.JournalRecord.{JournalRecord}
use Rattle.nodes_parts.specs.Gated.{HoldsRecords}
use Rattle.nodes_parts.proofs.Walking.{IsAhead}
use Rattle.nodes_parts.proofs.journals.last_gates.Given as goal

abbrev pub invariant-loop-next : goal.invariant-loop-next
invariant-loop-next l = (rs : List JournalRecord) → HoldsRecords l.octets rs → IsAhead l.octets l.gates.last l.gates.end rs

abbrev pub decreases-loop-next : goal.decreases-loop-next
decreases-loop-next l = length l.octets - l.gates.end
