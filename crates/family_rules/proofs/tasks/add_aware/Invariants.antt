use Rattle.std.proofs.Common.{◌≡◌, ◌+◌, ◌++◌, ◌==◌, ◌&&◌, ◌≤◌, map, take}
use Rattle.std.specs.Prelude.{filter}
use Rattle.std.specs.VecDeque.{deque_capacity, deque_len}
use Rattle.family_rules.specs.Calls.{AreTasks, duties_in}
use Rattle.coordinator.specs.Running.{duty_to}
use Rattle.family_rules.proofs.tasks.add_aware.Given as goal

abbrev pub invariant-loop-place : goal.invariant-loop-place
invariant-loop-place l = record {
  gathered : duties_in l.votes.ballots.registrations l.tasks.items
      ≡ duties_in l.votes.ballots.registrations l.initial.tasks.items
      ++ map (duty_to l.ending) (filter (λ r. r.aware && r.branch == l.branch) (take l.place l.votes.ballots.registrations));
  tasks : AreTasks l.votes.ballots.registrations l.tasks.items;
  room : deque_len l.tasks ≤ deque_len l.initial.tasks + l.place;
  capacity : deque_capacity l.tasks ≡ deque_capacity l.initial.tasks;
}
