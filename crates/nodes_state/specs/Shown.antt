-- The world for which the code's own stands (our profile).
use Rattle.std.specs.Prelude.{◌≡◌, ◌≤◌, length, map, Some}
use Rattle.coordinator.specs.Family.{Family}
use Rattle.ior_refs.specs.declared.key.ObjectKey.{ObjectKey}
use Rattle.resource_votes.specs.Limits.{list_count}
use Rattle.nodes_world.specs.World.{World, family_at}
use Rattle.nodes_state.specs.declared.state.State.{State}
use Rattle.nodes_state.specs.Seated.{seat_of}
use Rattle.nodes_state.specs.Telling.{AreNamesOf}

abbrev pub shown : State → World
shown s = record { seats = map seat_of s.seats.items; messages = s.messages; names = s.names.things }

-- its names are found in the world
abbrev pub HasNames : State → Type 0
HasNames s = AreNamesOf s.names (shown s)

-- no family has more lists than there may be
abbrev pub HasLists : World → Type 0
HasLists w = (key : ObjectKey) (f : Family) → family_at w key ≡ Some f → length f.ballots.lists ≤ list_count
