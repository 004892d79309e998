use Rattle.std.proofs.Common.{◌≡◌, bytes_eq, drop}
use Rattle.nodes_parts.proofs.shared.are_same.Given as goal

-- what stands before is the same
abbrev pub invariant-loop-at : goal.invariant-loop-at
invariant-loop-at l = bytes_eq l.octets l.others ≡ bytes_eq (drop l.at l.octets) (drop l.at l.others)
