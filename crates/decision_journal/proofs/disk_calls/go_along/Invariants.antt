use Rattle.std.proofs.Common.{◌≡◌, ◌≤◌, ◌-◌, length, take}
use Rattle.std.specs.Prelude.{IfSome}
use Rattle.decision_journal.specs.Journal.{IsAlong}
use Rattle.decision_journal.proofs.Asking.{HasReadTo}
use Rattle.decision_journal.proofs.disk_calls.go_along.Given as goal

abbrev pub invariant-loop-place : goal.invariant-loop-place
invariant-loop-place g l = record {
  within : l.place ≤ l.count;
  before : l.found.same ≤ l.place;
  known : l.found.same ≤ length l.known;
  pieces : length l.piece ≡ length l.fn.piece;
  untouched : g.D.Disk.told l.disk ≡ g.D.Disk.told l.fn.disk;
  along : IfSome (g.D.Disk.told l.fn.disk) (λ s. IsAlong l.known (take l.place s.reads) l.found.same l.found.closed);
  asked : HasReadTo g.D.Disk.asked l.place l.count l.fn.disk l.disk;
  calm : g.D.Disk.faults l.disk ≡ g.D.Disk.faults l.fn.disk;
}

abbrev pub decreases-loop-place : goal.decreases-loop-place
decreases-loop-place g l = l.count - l.place
