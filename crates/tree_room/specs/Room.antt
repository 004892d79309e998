-- What a room shows without its lock, where its service stands, the number of that service and the life that it is in; and whose
-- node lies behind the lock (our profile).
use Rattle.std.specs.Prelude.{◌≡◌, ◌≤◌, ℕ, false, length}
use Rattle.cdr_values.specs.Value.{has_nul}
use Rattle.ots_model.specs.declared.service.Endpoint.{Endpoint}
use Rattle.coordinator.specs.Contexts.{host_limit}
use Rattle.coordinator.specs.Node as nodes
use Rattle.service_node.specs.NodeState.{HangsTogether, NodeState}

pub record RoomState : Type 0 where
  pub at : Endpoint
  pub service : ℕ
  pub life : ℕ

-- a reference can tell this host: it is short, and has no NUL
pub record CanBeTold (at : Endpoint) : Type 0 where
  pub short : length at.host ≤ host_limit
  pub text : has_nul at.host ≡ false

-- a room that can be told, of this service, in this life
pub record IsNamedRoom (service life : ℕ) (room : RoomState) : Type 0 where
  pub told : CanBeTold room.at
  pub service_is : room.service ≡ service
  pub life_is : room.life ≡ life

-- a node is of this service, and in this life
pub record IsNamed {D : Type 0} (service life : ℕ) (n : NodeState D) : Type 0 where
  pub service_is : n.node.service ≡ service
  pub life_is : nodes.life n.node ≡ life

-- a node that lies behind the lock: a whole one, of this service and in this life
pub record IsOfRoom {D : Type 0} (service life : ℕ) (n : NodeState D) : Type 0 where
  pub named : IsNamed service life n
  pub hangs_together : HangsTogether n
