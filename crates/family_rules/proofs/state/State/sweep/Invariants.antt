use Rattle.std.proofs.Common.{◌≡◌, ◌-◌, ◌+◌, ◌≤◌, length}
use Rattle.family_rules.specs.Calls.{plain_call}
use Rattle.family_rules.specs.Changes.{so_far}
use Rattle.family_rules.specs.Going.{CanGo}
use Rattle.coordinator.specs.Moves.{◌▹◌}
use Rattle.coordinator.specs.Running.{sweeps}
use Rattle.family_rules.proofs.state.State.sweep.Given as goal

abbrev pub invariant-loop-so_many : goal.invariant-loop-so_many
invariant-loop-so_many l = record {
  same : (so_far l.self.family l.out ▹ sweeps (length l.initial.self.family.rows - l._so_many) l.branch (plain_call l.call))
      ≡ (so_far l.initial.self.family l.initial.out ▹ sweeps (length l.initial.self.family.rows) l.branch (plain_call l.call));
  rows : length l.self.family.rows ≡ length l.initial.self.family.rows;
  kept : l.initial.self.history_room ≤ l.self.history_room;
  can : CanGo (length l.initial.self.family.rows - l._so_many + 3) l.self.family l.out;
}
