use Rattle.std.proofs.Common.{◌≡◌}
use Rattle.std.specs.List.{list_all}
use Rattle.nodes_world.specs.Resolve.{is_touched_one}
use Rattle.nodes_state.specs.Shown.{shown}
use Rattle.nodes_resolve.proofs.touching.are_touched.Given as goal

abbrev pub invariant-loop-registration : goal.invariant-loop-registration
invariant-loop-registration l =
    list_all (is_touched_one (shown l.state)) l.initial.registration-iterator
    ≡ list_all (is_touched_one (shown l.state)) l.registration-iterator
