use Rattle.std.proofs.Common.{drop}
use Rattle.nodes_world.specs.Happenings.{Cast, all_effect_lines}
use Rattle.nodes_world.specs.World.{World}
use Rattle.nodes_state.specs.Casting.{StandsFor}
use Rattle.nodes_state.specs.Telling.{AreNamesOf}
use Rattle.nodes_state.proofs.Progress.{IsTelling}
use Rattle.nodes_state.proofs.telling.tell_effects.Given as goal

abbrev pub invariant-loop-effect : goal.invariant-loop-effect
invariant-loop-effect l = (w : World) (c : Cast) → AreNamesOf l.names w → StandsFor l.cast c w
    → IsTelling (all_effect_lines w c l.fn.effects) l.fn.lines.items (all_effect_lines w c (drop l.effect-index l.effects)) l.lines.items
