use Rattle.std.proofs.Common.{drop}
use Rattle.std.specs.List.{flat_map}
use Rattle.nodes_world.specs.Lives.{standing_lines}
use Rattle.nodes_world.specs.World.{World}
use Rattle.nodes_state.specs.Telling.{AreNamesOf}
use Rattle.nodes_state.proofs.Progress.{IsTelling}
use Rattle.nodes_seats.proofs.standing.tell_all_standing.Given as goal

abbrev pub invariant-loop-held : goal.invariant-loop-held
invariant-loop-held l = (w : World) → AreNamesOf l.names w
    → IsTelling (flat_map (standing_lines w l.service) l.fn.records) l.fn.lines.items (flat_map (standing_lines w l.service) (drop l.held-index l.records)) l.lines.items
