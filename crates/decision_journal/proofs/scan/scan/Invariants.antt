use Rattle.std.proofs.Common.{◌-◌, length}
use Rattle.decision_journal.specs.Index.{AreBefore, left}
use Rattle.decision_journal.proofs.Scans.{IsScanning}
use Rattle.decision_journal.proofs.scan.scan.Given as goal

abbrev pub invariant-loop-rest : goal.invariant-loop-rest
invariant-loop-rest l = record {
  scanning : IsScanning l.service l.octets (left l.index.found) l.rest;
  before : AreBefore (length l.octets - length l.rest) l.index.found.standing;
}

abbrev pub decreases-loop-rest : goal.decreases-loop-rest
decreases-loop-rest l = length l.rest
