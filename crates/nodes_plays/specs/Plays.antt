-- That a script reaches a world, and what it has told then (our profile).
use Rattle.std.specs.Prelude.{◌≡◌, List, [], ◌∷◌, ◌++◌}
use Rattle.ots_world.specs.declared.script.ScriptEvent.{ScriptEvent}
use Rattle.nodes_world.specs.Agreement.{Reaches, nothing, further}
use Rattle.nodes_world.specs.Lives.{last_lines}
use Rattle.nodes_world.specs.Told.{Told}
use Rattle.nodes_world.specs.World.{World}
use Rattle.nodes_steps.specs.Steps.{CanGoOn}

-- the lines of a script by which a world was reached, in their order
abbrev pub events_of : (w : World) (told : List Told) → Reaches w told → List ScriptEvent
events_of w told nothing = []
events_of w told (further before earlier event deed reached few gives named unlimited) = events_of before earlier reached ++ event ∷ []

-- by this script, from its first line to its last, a world is reached that has told these lines, and a script can go on there
pub record Plays (script : List ScriptEvent) (told : List Told) : Type 0 where
  pub world : World
  pub goes_on : CanGoOn world told
  pub by : events_of world told goes_on.reached ≡ script

-- where it ends there, it tells these journals too
pub record PlaysTo (script : List ScriptEvent) (told journals : List Told) : Type 0 where
  pub plays : Plays script told
  pub last : last_lines plays.world ≡ journals
