use Rattle.std.proofs.Common.{◌≡◌, ◌*◌, ◌≤◌, length, take}
use Rattle.std.specs.List.{flat_map}
use Rattle.two_phase.specs.Parties.{dispositions_of}
use Rattle.two_phase.proofs.parties.gathered.Given as goal

abbrev pub invariant-loop-party : goal.invariant-loop-party
invariant-loop-party l = record {
  so_far : l.list ≡ flat_map (dispositions_of l.told) (take l.party-index l.parties);
  few : length l.list ≤ 2 * l.party-index;
}
