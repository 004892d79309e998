-- The node that a script's world lends (our profile).
use Rattle.std.specs.Prelude.{ℕ, List, slice_get, Option, None, Ok, Err}
use Rattle.std.specs.Option.{option_and_then, option_map}
use Rattle.ots_outside.specs.MemDisk.{MemDiskState}
use Rattle.coordinator.specs.Node.{Node}
use Rattle.service_node.specs.NodeState.{NodeState}
use Rattle.nodes_lives.specs.Living.{Living}
use Rattle.nodes_world.specs.Resolve.{node_named}
use Rattle.nodes_world.specs.World.{Seat, World, node_in}
use Rattle.nodes_replay.specs.Standing.{Standing}

-- a node, and its disk
abbrev pub lent_as : NodeState MemDiskState → Living
lent_as n = record { node = n.node; disk = n.journal.disk.disk }

-- the node that is up at a seat, and the disk there
abbrev pub living_in : Seat → Option Living
living_in s = option_map (λ (n : Node). record { node = n; disk = s.disk }) (node_in s.server)

abbrev pub living_at : World → ℕ → Option Living
living_at w place = option_and_then living_in (slice_get w.seats place)

-- the node of this name, where it is up and the world doesn't answer a refusal for good
abbrev pub lent : Standing → List ℕ → Option Living
lent (Ok w) name = option_and_then (living_at w) (node_named w name)
lent (Err fault) name = None
