use Rattle.std.proofs.Common.{◌≡◌, ◌++◌, ◌≤◌, length, drop}
use Rattle.nodes_parts.specs.Filling.{cycled, cycled_from}
use Rattle.nodes_parts.proofs.disks.push_cycled.Given as goal

abbrev pub invariant-loop-place : goal.invariant-loop-place
invariant-loop-place l = record {
  next : l.next ≤ length l.octets;
  done : l.into.items ++ cycled_from l.octets (drop l.next l.octets) (drop l.place-index l.places) ≡ l.fn.into.items ++ cycled l.octets l.places;
}
