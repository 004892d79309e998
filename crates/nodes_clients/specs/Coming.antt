-- What comes of an event at a seat (our profile).
use Rattle.std.specs.Prelude.{◌≡◌, ℕ, List, slice_get, Option, Some, None, Result}
use Rattle.ior_refs.specs.declared.key.ObjectKey.{ObjectKey}
use Rattle.ots_model.specs.declared.completion.Stood.{Stood}
use Rattle.ots_model.specs.declared.tree.Outward.{Outward}
use Rattle.ots_outside.specs.Disk.{DiskState, at_first}
use Rattle.coordinator.specs.Node.{Node}
use Rattle.coordinator.specs.NodeCalls.{applies, call_wants, family_for}
use Rattle.coordinator.specs.declared.effect.Effect.{Effect}
use Rattle.coordinator.specs.declared.event.Event.{Event}
use Rattle.coordinator.specs.declared.node.NodeFault.{NodeFault}
use Rattle.coordinator.specs.declared.said.StepAnswer.{StepAnswer}
use Rattle.nodes_world.specs.Disks.{Stop}
use Rattle.nodes_world.specs.Journals.{Answers, Asked, Stops, asks}
use Rattle.nodes_world.specs.World.{OfNode, Seat, node_in, with_seat}
use Rattle.nodes_lives.specs.First.{heard_by}
use Rattle.nodes_state.specs.Shown.{shown}
use Rattle.nodes_state.specs.declared.state.State.{State}
use Rattle.nodes_clients.specs.declared.coming.Came.{Came}
use Rattle.nodes_clients.specs.declared.coming.Came.TheVariants as came

-- what comes of asking the journal of a node at a seat
abbrev pub asked_at : ObjectKey → Event → Node → Seat → Asked
asked_at k e n s = asks (call_wants k e n) n.service n.found s.disk s.stop

-- the journal answered, and the call of the node that was up went through
pub record WentThrough (k : ObjectKey) (e : Event) (before after : Seat) (answer : Result StepAnswer NodeFault) (words : List Outward) : Type 0 where
  pub node : Node
  pub up : node_in before.server ≡ Some node
  pub stood : Option Stood
  pub disk : DiskState
  pub stop : Option Stop
  pub asked : asked_at k e node before ≡ Answers stood disk stop
  pub answer_is : answer ≡ (applies k e stood node).answer
  pub words_are : words ≡ (applies k e stood node).words
  pub later : after ≡ record before { server = OfNode (Some (applies k e stood node).node); disk = disk; stop = stop }

-- the node that was up has crashed inside a write: these octets are left, and this is what its family had heard
pub record WentDown (k : ObjectKey) (e : Event) (before after : Seat) (heard : List Effect) : Type 0 where
  pub node : Node
  pub up : node_in before.server ≡ Some node
  pub image : List ℕ
  pub asked : asked_at k e node before ≡ Stops image
  pub heard_is : heard ≡ heard_by (family_for k e node) e.act
  pub later : after ≡ record before { server = OfNode None; disk = at_first image; stop = None }

abbrev pub HasCome : ObjectKey → Event → Seat → Seat → Came → List Outward → Type 0
HasCome k e before after came.Nothing words = (node_in before.server ≡ None) × (after ≡ before)
HasCome k e before after (came.Through answer) words = WentThrough k e before after answer words
HasCome k e before after (came.Down heard) words = WentDown k e before after heard

-- so it is with the seat at a place, and nothing else has changed
pub record HasComeAt (k : ObjectKey) (e : Event) (place : ℕ) (old new : State) (came : Came) (words : List Outward) : Type 0 where
  pub before : Seat
  pub there : slice_get (shown old).seats place ≡ Some before
  pub later : Seat
  pub come : HasCome k e before later came words
  pub world : shown new ≡ with_seat place later (shown old)
