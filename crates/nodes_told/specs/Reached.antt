-- The lines of every world that a script reaches can be read (our profile).
use Rattle.std.specs.Prelude.{List, ◌++◌}
use Rattle.std.specs.List.{AllByRecursion}
use Rattle.nodes_world.specs.Agreement.{Reaches}
use Rattle.nodes_world.specs.Told.{Told}
use Rattle.nodes_world.specs.World.{World}
use Rattle.nodes_world.specs.Lives.{last_lines}
use Rattle.nodes_told.specs.Reading.{IsTold}

-- each of its lines can be read, and each that it tells in the end
abbrev pub ReachedLinesAreTold : Type 0
ReachedLinesAreTold = (w : World) (told : List Told) → Reaches w told → AllByRecursion IsTold (told ++ last_lines w)
