-- What comes of the making of a top-level transaction (our profile).
use Rattle.std.specs.Prelude.{◌≡◌, ℕ, Bool, true, false, List, [], ◌∷◌, codes, Option, Some, None, Result, Ok, Err}
use Rattle.ior_refs.specs.declared.key.ObjectKey.{ObjectKey}
use Rattle.ots_model.specs.declared.line.Line.TheVariants as lines
use Rattle.coordinator.specs.declared.node.NodeFault.{NodeFault}
use Rattle.coordinator.specs.declared.node.NodeFault.TheVariants as faults
use Rattle.coordinator.specs.Node.{Node}
use Rattle.coordinator.specs.NodeSlots.{creates}
use Rattle.nodes_world.specs.declared.thing.Thing.TheVariants as things
use Rattle.nodes_world.specs.Clients.{fault_said}
use Rattle.nodes_world.specs.Ends.{refuses}
use Rattle.nodes_world.specs.Happenings.{Done}
use Rattle.nodes_world.specs.Told.{Known}
use Rattle.nodes_world.specs.World.{OfNode, Seat, World, node_in, with_name}

-- a node that was up answers so, and stands as the definition leaves it
pub record HasMadeAt (seconds : ℕ) (before after : Seat) (said : Result ObjectKey NodeFault) : Type 0 where
  pub node : Node
  pub up : node_in before.server ≡ Some node
  pub answer : said ≡ (creates before.clock seconds node).answer
  pub later : after ≡ record before { server = OfNode (Some (creates before.clock seconds node).node) }

-- a node that is up at a seat made a family, or refused to; or none is up
abbrev pub HasCreated : ℕ → Seat → Seat → Option (Result ObjectKey NodeFault) → Type 0
HasCreated seconds before after (Some said) = HasMadeAt seconds before after said
HasCreated seconds before after None = (node_in before.server ≡ None) × (after ≡ before)

-- memory was wanted
abbrev pub is_starved : Result ObjectKey NodeFault → Bool
is_starved (Err faults.Memory) = true
is_starved _ = false

-- the transaction has its name, or the node refused it
abbrev pub begun_named : List ℕ → List ℕ → Result ObjectKey NodeFault → World → Done
begun_named name node (Ok key) w = record {
  world = with_name name (things.Transaction key) w;
  lines = Known (lines.Top name node) ∷ [];
}
begun_named name node (Err fault) w = refuses (codes "begin") (fault_said fault) w
