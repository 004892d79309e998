-- What stands at a seat, put there by the code (our profile).
use Rattle.std.specs.Prelude.{ℕ, List, [], length, slice_get, Option, Some, None}
use Rattle.ots_outside.specs.Disk.{DiskState}
use Rattle.coordinator.specs.Node.{Node}
use Rattle.nodes_world.specs.Happenings.{Done, nothing}
use Rattle.nodes_world.specs.Lives.{comes_up, up_lines}
use Rattle.nodes_world.specs.Told.{Told}
use Rattle.nodes_world.specs.declared.thing.Thing.TheVariants as things
use Rattle.nodes_world.specs.World.{Seat, World, node_in, with_disk, with_name, with_new_seat, with_server}
use Rattle.nodes_state.specs.Seated.{disk_of, seat_of, server_of}
use Rattle.nodes_state.specs.declared.seats.Server.{Server}

-- a further seat, where this stands, and which has a name
abbrev pub with_seat_of : List ℕ → Server → World → World
with_seat_of name server w =
    with_name name (things.Seat (length w.seats))
    (with_new_seat (seat_of (record { name = name; clock = 0; stop = None; server = server })) w)

-- this stands at a place from now on, with its disk, and no stop is to come
abbrev pub with_server_of : ℕ → Server → World → World
with_server_of place server w = with_server place (server_of server) (with_disk place (disk_of server) None w)

-- a node that was loaded comes up at a place
abbrev pub comes_up_at : ℕ → Node → DiskState → World → Done
comes_up_at place n disk w = elim (slice_get w.seats place) [ Some s ↦ comes_up place s.name n disk w | None ↦ nothing w ]

-- that the node at a seat runs, and each decision that stands there
abbrev pub up_lines_of : World → List ℕ → Option Node → List Told
up_lines_of w name (Some n) = up_lines w name n
up_lines_of w name None = []

abbrev pub up_lines_at : World → ℕ → List Told
up_lines_at w place = elim (slice_get w.seats place) [ Some s ↦ up_lines_of w s.name (node_in s.server) | None ↦ [] ]
