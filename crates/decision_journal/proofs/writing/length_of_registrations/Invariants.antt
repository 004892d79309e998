use Rattle.std.proofs.Common.{◌≡◌, ◌+◌, ◌*◌, ◌≤◌, length, take}
use Rattle.std.specs.List.{flat_map}
use Rattle.decision_journal.specs.Layout.{registration}
use Rattle.decision_journal.proofs.writing.length_of_registrations.Given as goal

abbrev pub invariant-loop-item : goal.invariant-loop-item
invariant-loop-item l = record {
  is : l.total ≡ 2 + length (flat_map registration (take l.item-index l.items));
  most : l.total ≤ 2 + 1030 * l.item-index;
}
