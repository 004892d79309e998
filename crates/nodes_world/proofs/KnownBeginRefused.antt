-- What is known of a world is known when no top-level transaction could be made.
use Rattle.std.proofs.Common.{ℕ, List, refl}
use Rattle.std.specs.Prelude.{Err}
use Rattle.coordinator.specs.Node.{Node}
use Rattle.coordinator.specs.declared.node.NodeFault.{NodeFault}
use Rattle.nodes_world.specs.World.{World}
use Rattle.nodes_world.specs.Clients.{begun_with}
use Rattle.nodes_world.specs.AgreementSteps.{StaysKnown}
use Rattle.nodes_world.proofs.KnownAlike.{known_alike}

pub known_refused : (w : World) (place : ℕ) (name node : List ℕ) (later : Node) (fault : NodeFault) → StaysKnown w (begun_with place name node later (Err fault) w)
known_refused w place name node later fault =
    known_alike w w _ (record { names = refl; seats = refl; messages = refl }) (tt, tt)
