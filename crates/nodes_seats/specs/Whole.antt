-- What holds of a world as the code keeps it (our profile).
use Rattle.std.specs.Prelude.{◌≡◌, ℕ, ◌<◌, ◌≤◌, length, slice_get, Some, Contains}
use Rattle.nodes_lives.specs.Loads.{StoresJournal}
use Rattle.nodes_world.specs.Limits.{seat_limit}
use Rattle.nodes_world.specs.Objects.{place_of, service_at}
use Rattle.nodes_world.specs.World.{NamedKey, World, resources}
use Rattle.nodes_state.specs.Shown.{HasNames, shown}
use Rattle.nodes_state.specs.declared.seats.Seat.{Seat}
use Rattle.nodes_state.specs.declared.seats.Server.{Server}
use Rattle.nodes_state.specs.declared.seats.Server.TheVariants as servers
use Rattle.nodes_state.specs.declared.state.State.{State}

-- a node at a place is of its service, and one that is down has left a journal of it
abbrev pub IsServed : ℕ → Server → Type 0
IsServed place (servers.Up n) = n.node.service ≡ service_at place
IsServed place (servers.Down octets) = StoresJournal (service_at place) octets.items
IsServed place (servers.End e) = Unit {0}

-- each resource that has a name is at an end that was made
abbrev pub ArePlaced : World → Type 0
ArePlaced w = (r : NamedKey) → Contains (resources w) r → place_of r.key < length w.seats

pub record IsWhole (s : State) : Type 0 where
  pub few : length s.seats.items ≤ seat_limit
  pub served : (place : ℕ) (seat : Seat) → slice_get s.seats.items place ≡ Some seat → IsServed place seat.server
  pub names : HasNames s
  pub placed : ArePlaced (shown s)
