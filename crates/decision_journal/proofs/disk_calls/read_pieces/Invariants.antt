use Rattle.std.proofs.Common.{◌≡◌, ◌≤◌, ◌-◌, length, take}
use Rattle.std.specs.Prelude.{IfSome}
use Rattle.decision_journal.proofs.Asking.{HasReadTo}
use Rattle.decision_journal.proofs.disk_calls.read_pieces.Given as goal

abbrev pub invariant-loop-place : goal.invariant-loop-place
invariant-loop-place g l = record {
  within : l.place ≤ length l.octets;
  untouched : g.D.Disk.told l.disk ≡ g.D.Disk.told l.fn.disk;
  front : IfSome (g.D.Disk.told l.fn.disk) (λ s. take l.place l.octets ≡ take l.place s.reads);
  asked : HasReadTo g.D.Disk.asked l.place (length l.fn.octets) l.fn.disk l.disk;
  calm : g.D.Disk.faults l.disk ≡ g.D.Disk.faults l.fn.disk;
}

abbrev pub decreases-loop-place : goal.decreases-loop-place
decreases-loop-place g l = length l.octets - l.place
