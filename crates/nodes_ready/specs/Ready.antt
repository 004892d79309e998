-- What holds of a world in which clients call and messages are delivered, as the code keeps it (our profile).
use Rattle.std.specs.Prelude.{◌≡◌, ℕ, false, List, slice_get, Some}
use Rattle.coordinator.specs.declared.event.Act.{Act}
use Rattle.ior_refs.specs.declared.key.ObjectKey.{ObjectKey}
use Rattle.nodes_world.specs.declared.message.Content.TheVariants as contents
use Rattle.nodes_world.specs.declared.message.Message.{Message}
use Rattle.nodes_seats.specs.Whole.{IsWhole}
use Rattle.nodes_state.specs.declared.state.State.{State}
use Rattle.service_node.specs.Given.{node_makes}

-- what a client calls is nothing that a node tells its families itself
abbrev pub AreClients : List Message → Type 0
AreClients messages = (place : ℕ) (m : Message) (to : ObjectKey) (act : Act) → slice_get messages place ≡ Some m
    → m.content ≡ contents.Call to act → node_makes act ≡ false

pub record IsReady (s : State) : Type 0 where
  pub whole : IsWhole s
  pub clients : AreClients s.messages
