-- How many messages a world that stands has (our profile).
use Rattle.std.specs.Prelude.{Ok, Err}
use Rattle.nodes_world.specs.Agreement.{GoesOnFrom}
use Rattle.nodes_replay.specs.Standing.{Standing}

-- where it stands, a script can go on from it
abbrev pub GoesOn : Standing → Type 0
GoesOn (Ok w) = GoesOnFrom w
GoesOn (Err fault) = Unit {0}
