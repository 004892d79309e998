use Rattle.std.proofs.Common.{◌≡◌, ◌≤◌, ◌++◌, length, take}
use Rattle.std.specs.Prelude.{vec_capacity}
use Rattle.std.specs.List.{flat_map}
use Rattle.decision_journal.specs.Layout.{registration, two}
use Rattle.decision_journal.proofs.writing.put_registrations.Given as goal

abbrev pub invariant-loop-item : goal.invariant-loop-item
invariant-loop-item l = record {
  items : l.out.items ≡ l.fn.out.items ++ (two (length l.items) ++ flat_map registration (take l.item-index l.items));
  room : vec_capacity l.fn.out ≤ vec_capacity l.out;
}
