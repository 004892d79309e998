-- Whether a registration was so answered that the object is registered (our profile).
use Rattle.std.specs.Prelude.{Bool, false, Option}
use Rattle.std.specs.Option.{option_map_or}
use Rattle.coordinator.specs.declared.said.Said.{Said}
use Rattle.nodes_world.specs.declared.deed.Manner.{Manner}
use Rattle.nodes_world.specs.Clients.{is_registered}

abbrev pub was_registered : Manner → Option Said → Bool
was_registered manner answer = option_map_or (is_registered manner) answer false
