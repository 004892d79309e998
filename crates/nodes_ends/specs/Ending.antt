-- Ends and their resources, as the code keeps them (our profile).
use Rattle.std.specs.Prelude.{◌≡◌, ◌⊎◌, ℕ, List, [], ◌∷◌, map, slice_get, slice_set, Option, Some, None, Result, Ok, Err, if◌then◌else◌}
use Rattle.ots_world.specs.declared.fault.WorldFault.{WorldFault}
use Rattle.ots_world.specs.declared.fault.WorldFault.TheVariants as faults
use Rattle.resource_end.specs.States.{is_forgotten}
use Rattle.resource_end.specs.declared.state.State.{State as Stage}
use Rattle.coordinator.specs.declared.said.Said.{Said}
use Rattle.coordinator.specs.declared.said.Said.TheVariants as said
use Rattle.nodes_parts.specs.Kept.{flat, resource_numbered}
use Rattle.nodes_parts.specs.declared.ends.Resource.{Resource}
use Rattle.nodes_world.specs.Ends.{closed_by}
use Rattle.nodes_world.specs.Told.{Refused}
use Rattle.nodes_world.specs.World.{FlatEnd, FlatResource}
use Rattle.nodes_state.specs.Telling.{Tells}
use Rattle.nodes_state.specs.declared.seats.Seat.{Seat}
use Rattle.nodes_state.specs.declared.seats.Server.{Server}
use Rattle.nodes_state.specs.declared.seats.Server.TheVariants as servers
use Rattle.nodes_state.specs.declared.state.State.{State}

-- the end at a place becomes another
abbrev pub with_end_there : (FlatEnd → FlatEnd) → Server → Server
with_end_there change (servers.End e) = servers.End (change e)
with_end_there change other = other

abbrev pub with_end_in : ℕ → (FlatEnd → FlatEnd) → List Seat → List Seat
with_end_in place change seats = elim (slice_get seats place) [
  | Some s ↦ slice_set seats place (record s { server = with_end_there change s.server })
  | None ↦ seats
]

-- the end at a place has this resource
abbrev pub HasThere : FlatResource → Server → Type 0
HasThere r (servers.End e) = resource_numbered r.key.generation e ≡ Some r
HasThere r other = Unit {0}

abbrev pub HasResource : List Seat → ℕ → FlatResource → Type 0
HasResource seats place r = (s : Seat) → slice_get seats place ≡ Some s → HasThere r s.server

-- it is the seat of an end
abbrev pub IsEndSeat : Server → Type 0
IsEndSeat (servers.End e) = Unit {0}
IsEndSeat other = ⊥

-- each seat stays but those of ends, and all have their names
pub record KeepsNodes (old new : State) : Type 0 where
  pub names : new.names ≡ old.names
  pub seat_names : map (λ (s : Seat). s.name) new.seats.items ≡ map (λ (s : Seat). s.name) old.seats.items
  pub seats : (place : ℕ) (s : Seat) → slice_get new.seats.items place ≡ Some s
      → IsEndSeat s.server ⊎ (slice_get old.seats.items place ≡ Some s)

-- what a resource answers to a word that changes nothing there
abbrev pub heard_only : Stage → Said
heard_only state = if is_forgotten state then said.ObjectNotExist else said.Plain

-- no resource is there; or its state doesn't let a script do something with it, and that was told for a line with this
-- first word
abbrev pub IsRefused : List ℕ → Option FlatResource → List ℕ → List ℕ → Type 0
IsRefused word None before after = after ≡ before
IsRefused word (Some r) before after =
    (answer : Said) × (closed_by r.state ≡ Some answer) × Tells (Refused word answer ∷ []) before after

-- no resource is there, or its state lets a script do something with it
abbrev pub IsOpen : Option FlatResource → Type 0
IsOpen None = Unit {0}
IsOpen (Some r) = closed_by r.state ≡ None

-- one is there, and its state doesn't let it
abbrev pub IsShut : Option FlatResource → Type 0
IsShut None = ⊥
IsShut (Some r) = (answer : Said) × (closed_by r.state ≡ Some answer)

-- the resource that is there was given out; or it is refused; or memory ran out where it is, and nothing was told
abbrev pub IsOpened : List ℕ → Option FlatResource → List ℕ → List ℕ → Result (Option Resource) WorldFault → Type 0
IsOpened word there before after (Ok (Some r)) = (there ≡ Some (flat r)) × (closed_by r.state ≡ None) × (after ≡ before)
IsOpened word there before after (Ok None) = IsRefused word there before after
IsOpened word there before after (Err fault) = (fault ≡ faults.Memory) × (after ≡ before) × IsShut there
