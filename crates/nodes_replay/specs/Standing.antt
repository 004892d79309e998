-- What a script's world is to its callers (our profile).
use Rattle.std.specs.Prelude.{Result}
use Rattle.ots_world.specs.declared.fault.WorldFault.{WorldFault}
use Rattle.nodes_world.specs.World.{World}

-- a world, or the refusal that it answers for good
abbrev pub Standing : Type 0
Standing = Result World WorldFault
