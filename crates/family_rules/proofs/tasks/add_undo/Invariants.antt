use Rattle.std.proofs.Common.{◌≡◌, ◌+◌, ◌++◌, length, map}
use Rattle.std.specs.VecDeque.{deque_capacity, deque_len}
use Rattle.family_rules.specs.Calls.{task_to}
use Rattle.coordinator.specs.declared.call.Ending.TheVariants.{RollsBackUpdates}
use Rattle.family_rules.proofs.tasks.add_undo.Given as goal

abbrev pub invariant-loop-registration : goal.invariant-loop-registration
invariant-loop-registration l = record {
  entered : l.tasks.items ++ map (task_to RollsBackUpdates) l.registration-iterator ≡ l.initial.tasks.items ++ map (task_to RollsBackUpdates) l.initial.registration-iterator;
  room : deque_len l.tasks + length l.registration-iterator ≡ deque_len l.initial.tasks + length l.initial.registration-iterator;
  capacity : deque_capacity l.tasks ≡ deque_capacity l.initial.tasks;
}
