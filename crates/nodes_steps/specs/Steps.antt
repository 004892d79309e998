-- What one line of a script does to what is known of its world (our profile).
use Rattle.std.specs.Prelude.{◌≡◌, ◌⊎◌, ℕ, List, [], ◌++◌, Some, None}
use Rattle.ots_model.specs.Safe.{AreSafe}
use Rattle.ots_world.specs.declared.script.ScriptEvent.{ScriptEvent}
use Rattle.nodes_world.specs.declared.deed.Deed.{Deed}
use Rattle.nodes_world.specs.declared.thing.Thing.{Thing}
use Rattle.nodes_world.specs.Agreement.{GivesName, GoesOnFrom, OutcomesLast, Reaches}
use Rattle.nodes_world.specs.Happenings.{Done}
use Rattle.nodes_world.specs.Lives.{last_lines}
use Rattle.nodes_world.specs.Resolve.{resolve}
use Rattle.nodes_world.specs.Step.{Stepped, Moves, Passes, Names, carried_out, limit_before, step}
use Rattle.nodes_world.specs.Told.{Told, known}
use Rattle.nodes_world.specs.World.{World, thing}

-- a line is a deed that passes no limit before, and comes to this
pub record IsDone (event : ScriptEvent) (w : World) (to : Done) : Type 0 where
  pub deed : Deed
  pub named : resolve event w ≡ Some deed
  pub unlimited : limit_before deed w ≡ None
  pub is : to ≡ carried_out deed w

-- the lines that a line of a script may tell
abbrev pub lines_by : Stepped → List Told
lines_by (Moves to) = to.lines
lines_by (Passes limit lines) = lines
lines_by Names = []

-- a script can reach the world, telling these lines, and go on there
pub record CanGoOn (w : World) (told : List Told) : Type 0 where
  pub reached : Reaches w told
  pub few : GoesOnFrom w

-- what has a name keeps it, and what is decided or closed is so still
pub record Lasts (w later : World) (told all : List Told) : Type 0 where
  pub named : (name : List ℕ) (named : Thing) → thing w name ≡ Some named → thing later name ≡ Some named
  pub outcomes : OutcomesLast w later told all

-- what a line keeps of what is known of its world, where these lines were told before
pub record Keeps (event : ScriptEvent) (w : World) (told : List Told) : Type 0 where
  -- what its deed comes to is reached, also where that passes a limit
  pub reached : (to : Done) → IsDone event w to → Reaches to.world (told ++ to.lines)
  -- where it moves the world on, a script can go on behind it
  pub goes_on : (to : Done) → step event w ≡ Moves to → CanGoOn to.world (told ++ to.lines)
  -- and what was so for good is so there
  pub lasts : (to : Done) → step event w ≡ Moves to → Lasts w to.world told (told ++ to.lines)
  -- all lines are safe, those that it may tell among them
  pub safe : AreSafe (known (told ++ lines_by (step event w)))

-- what each line does
pub record LinesKeepAgreement : Type 0 where
  -- where it moves a world on, that is what its deed comes to
  pub moves : (event : ScriptEvent) (w : World) (to : Done) → step event w ≡ Moves to → IsDone event w to
  -- where it passes a limit, it may tell nothing, or what its deed tells
  pub passes : (event : ScriptEvent) (w : World) (limit : ℕ) (lines : List Told) → step event w ≡ Passes limit lines
      → (lines ≡ []) ⊎ ((to : Done) × IsDone event w to × (lines ≡ to.lines))
  -- in a world that a script can reach, and go on from, it keeps what is known
  pub keeps : (event : ScriptEvent) (w : World) (told : List Told) → GivesName event → CanGoOn w told → Keeps event w told
  -- and where the script ends there, all lines are safe with the journals
  pub ends : (w : World) (told : List Told) → Reaches w told → AreSafe (known (told ++ last_lines w))
  -- some from the front of safe lines are safe
  pub fronts : (some others : List Told) → AreSafe (known (some ++ others)) → AreSafe (known some)
