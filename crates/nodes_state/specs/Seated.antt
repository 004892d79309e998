-- A seat as it is defined, and what the code keeps there (our profile).
use Rattle.std.specs.Prelude.{[], Some, None}
use Rattle.std.specs.Option.{option_map}
use Rattle.ots_outside.specs.Disk.{DiskState, at_first}
use Rattle.coordinator.specs.Node.{Node}
use Rattle.nodes_world.specs.World.{Seat, Server, OfNode, OfEnd}
use Rattle.nodes_lives.specs.Calling.{stop_of}
use Rattle.nodes_lives.specs.Living.{Living}
use Rattle.nodes_state.specs.declared.seats.Seat.{Seat as KeptSeat}
use Rattle.nodes_state.specs.declared.seats.Server.{Server as KeptServer}
use Rattle.nodes_state.specs.declared.seats.Server.TheVariants as servers

-- the node that lives
abbrev pub node_of : Living → Node
node_of n = n.node

-- what is up
abbrev pub server_of : KeptServer → Server
server_of (servers.Up n) = OfNode (Some (node_of n))
server_of (servers.Down octets) = OfNode None
server_of (servers.End e) = OfEnd (Some e)

-- and what its disk is
abbrev pub disk_of : KeptServer → DiskState
disk_of (servers.Up n) = n.disk
disk_of (servers.Down octets) = at_first octets.items
disk_of (servers.End e) = at_first []

abbrev pub seat_of : KeptSeat → Seat
seat_of s = record {
  name = s.name;
  clock = s.clock;
  disk = disk_of s.server;
  stop = option_map stop_of s.stop;
  server = server_of s.server;
}
