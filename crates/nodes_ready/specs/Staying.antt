-- What stays of a world that is whole or ready, whatever a line of a script does (our profile).
use Rattle.std.specs.Prelude.{◌≡◌, false}
use Rattle.nodes_world.specs.declared.deed.Deed.{Deed}
use Rattle.nodes_world.specs.declared.deed.Deed.TheVariants as deeds
use Rattle.nodes_world.specs.Step.{carried_out}
use Rattle.nodes_world.specs.World.{World, resources}
use Rattle.nodes_state.specs.Does.{StaysSo}
use Rattle.nodes_state.specs.Shown.{HasNames, shown}
use Rattle.nodes_state.specs.declared.state.State.{State}
use Rattle.nodes_ends.specs.Ending.{KeepsNodes}
use Rattle.nodes_clients.specs.Keeping.{KeepsSeats}
use Rattle.nodes_seats.specs.Whole.{IsWhole}
use Rattle.nodes_ready.specs.Ready.{AreClients, IsReady}
use Rattle.service_node.specs.Given.{node_makes}

-- ---- whole

-- where seats and names stay, whatever messages there are
abbrev pub SendingKeepsWhole : Type 0
SendingKeepsWhole = (old new : State) → StaysSo old new → IsWhole old → IsWhole new

-- where each seat is kept, the same resources have names, and names are found
abbrev pub SeatsKeepWhole : Type 0
SeatsKeepWhole = (old new : State) → KeepsSeats old new → resources (shown new) ≡ resources (shown old) → HasNames new
    → IsWhole old → IsWhole new

-- where only ends change
abbrev pub NodesKeepWhole : Type 0
NodesKeepWhole = (old new : State) → KeepsNodes old new → IsWhole old → IsWhole new

-- ---- ready

-- what a client calls in a line is nothing that a node tells its families itself
abbrev pub IsGiven : Deed → Type 0
IsGiven (deeds.Call to act) = node_makes act ≡ false
IsGiven other = Unit {0}

-- then no client's call comes to the messages that a node tells its families itself
abbrev pub DeedsAddNoCall : Type 0
DeedsAddNoCall = (deed : Deed) (w : World) → IsGiven deed → AreClients w.messages → AreClients (carried_out deed w).world.messages

-- what is whole behind a line is ready, where that was so before it
abbrev pub DeedsKeepReady : Type 0
DeedsKeepReady = (deed : Deed) (old new : State) → IsGiven deed → shown new ≡ (carried_out deed (shown old)).world → IsWhole new
    → IsReady old → IsReady new
