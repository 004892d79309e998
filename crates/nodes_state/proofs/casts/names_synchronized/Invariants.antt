use Rattle.std.proofs.Common.{◌≡◌, map, take}
use Rattle.nodes_world.specs.World.{World}
use Rattle.nodes_state.specs.Telling.{AreNamesOf, name_in}
use Rattle.nodes_state.proofs.casts.names_synchronized.Given as goal

abbrev pub invariant-loop-place : goal.invariant-loop-place
invariant-loop-place l = (w : World) → AreNamesOf l.names w → l.found.items ≡ map (name_in w) (take l.place l.family.family.ballots.synchronizations)
