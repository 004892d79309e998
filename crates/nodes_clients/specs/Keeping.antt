-- What stays at the seats of a world, whatever comes to its nodes (our profile).
use Rattle.std.specs.Prelude.{◌≡◌, ℕ, length, slice_get, Some}
use Rattle.nodes_lives.specs.Loads.{StoresJournal}
use Rattle.nodes_state.specs.declared.seats.Seat.{Seat}
use Rattle.nodes_state.specs.declared.seats.Server.{Server}
use Rattle.nodes_state.specs.declared.seats.Server.TheVariants as servers
use Rattle.nodes_state.specs.declared.state.State.{State}

-- a node that is up stays of its service, and where it goes down it leaves a journal of that service; what isn't up stays, and an end is an end
abbrev pub KeepsServer : Server → Server → Type 0
KeepsServer (servers.Up n) (servers.Up m) = m.node.service ≡ n.node.service
KeepsServer (servers.Up n) (servers.Down octets) = StoresJournal n.node.service octets.items
KeepsServer (servers.Up n) (servers.End e) = ⊥
KeepsServer (servers.Down octets) after = after ≡ servers.Down octets
KeepsServer (servers.End e) (servers.Up m) = ⊥
KeepsServer (servers.End e) (servers.Down octets) = ⊥
KeepsServer (servers.End e) (servers.End f) = Unit {0}

pub record KeepsSeat (before after : Seat) : Type 0 where
  pub name : after.name ≡ before.name
  pub server : KeepsServer before.server after.server

-- no seat goes or comes, and each is kept
pub record KeepsSeats (old new : State) : Type 0 where
  pub count : length new.seats.items ≡ length old.seats.items
  pub each : (place : ℕ) (before after : Seat) → slice_get old.seats.items place ≡ Some before → slice_get new.seats.items place ≡ Some after
      → KeepsSeat before after
