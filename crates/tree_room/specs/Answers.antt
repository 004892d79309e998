-- What a room answers: what the node behind its lock answered. No clause can name that node, so it is said that there is a whole node
-- of its service, in its life, which the call made into another one, with that answer (our profile).
use Rattle.std.specs.Prelude.{◌≡◌, ◌⊎◌, ◌&&◌, ℕ, Bool, true, false, if◌then◌else◌, List, [], ◌++◌, Option, None, Result, Ok, Err}
use Rattle.ior_refs.specs.declared.key.ObjectKey.{ObjectKey}
use Rattle.ots_context.specs.declared.context.Context.{Context}
use Rattle.ots_model.specs.declared.service.Endpoint.{Endpoint}
use Rattle.ots_model.specs.declared.service.Status.TheVariants.{Active}
use Rattle.ots_model.specs.declared.tree.Outward.{Outward}
use Rattle.ots_outside.specs.Disk.{DiskState}
use Rattle.coordinator.specs.Contexts.{context_named}
use Rattle.coordinator.specs.Objects.{node_has_object}
use Rattle.coordinator.specs.declared.event.Act.{Act}
use Rattle.coordinator.specs.declared.event.Act.TheVariants as acts
use Rattle.coordinator.specs.declared.event.Event.{Event}
use Rattle.coordinator.specs.declared.node.NodeFault.{NodeFault}
use Rattle.coordinator.specs.declared.node.NodeFault.TheVariants as faults
use Rattle.coordinator.specs.declared.said.Said.{Said}
use Rattle.coordinator.specs.declared.said.Said.TheVariants as says
use Rattle.coordinator.specs.declared.said.StepAnswer.{StepAnswer}
use Rattle.coordinator.specs.NodeSlots.{creates}
use Rattle.coordinator.specs.NodeTick.{ticks}
use Rattle.service_node.specs.Applying.{IsApplied, IsUnapplied}
use Rattle.service_node.specs.Crashes.{IsCrashSafe}
use Rattle.service_node.specs.NodeState.{NodeState, IsMadeOrStarved}
use Rattle.service_node.specs.Ticking.{HasTickedInPart, words_in}
use Rattle.tree_room.specs.Room.{IsOfRoom}
use Rattle.tree_room.specs.declared.fault.RoomFault.{RoomFault}
use Rattle.tree_room.specs.declared.fault.RoomFault.TheVariants as refusals

-- what a refusal of a node is to the caller of its room
abbrev pub refusal_of : NodeFault → RoomFault
refusal_of faults.ObjectNotExist = refusals.ObjectNotExist
refusal_of faults.NoResources = refusals.NoResources
refusal_of faults.NoImplement = refusals.NoImplement
refusal_of (faults.Journal fault) = refusals.Memory
refusal_of faults.Memory = refusals.Memory

-- a node has made a family at this moment, whose time is over after so many seconds, or has refused to
pub record IsCreated (D : Type 0) (service life now seconds : ℕ) (said : Result ObjectKey NodeFault) : Type 0 where
  pub before : NodeState D
  pub after : NodeState D
  pub of_room : IsOfRoom service life before
  pub made : IsMadeOrStarved before after said (creates now seconds before.node)

-- a node has refused to
pub record IsUncreated (D : Type 0) (service life now seconds : ℕ) (refusal : RoomFault) : Type 0 where
  pub fault : NodeFault
  pub created : IsCreated D service life now seconds (Err fault)
  pub refusal_is : refusal ≡ refusal_of fault

-- what is said of a new transaction: it is active, and nobody was told
abbrev pub opened : StepAnswer
opened = record { position = 0; said = says.State Active; finished = []; effects = [] }

-- an event asks what a request says that belongs to the transaction
abbrev pub asks_context : Act → Bool
asks_context acts.GetTxcontext = true
asks_context act = false

-- a call was done, and there is nothing more to say
abbrev pub is_plain : Said → Bool
is_plain says.Plain = true
is_plain said = false

-- it is given where it was asked for, and the call was done
abbrev pub given_for : Act → Said → Option Context → Option Context
given_for act said found = if asks_context act && is_plain said then found else None

-- a node has answered a call so, its words went out, and a crash on the way loses nothing
pub record IsAnswered {D : Type 0} (wants : Bool) (told : D → Option DiskState) (counts : D → ℕ) (at : Endpoint) (service life : ℕ) (k : ObjectKey)
    (e : Event) (answer : StepAnswer) (context : Option Context) (words more : List Outward) : Type 0 where
  pub before : NodeState D
  pub after : NodeState D
  pub of_room : IsOfRoom service life before
  pub applied : IsApplied wants told counts k e before after (Ok answer) words more
  pub context_is : context ≡ given_for e.act answer.said (context_named at e.now k before.node)
  pub crash : IsCrashSafe told before after

-- a node has refused a call so
pub record IsRefused {D : Type 0} (wants : Bool) (told : D → Option DiskState) (counts : D → ℕ) (service life : ℕ) (k : ObjectKey) (e : Event)
    (refusal : RoomFault) (words more : List Outward) : Type 0 where
  pub before : NodeState D
  pub after : NodeState D
  pub of_room : IsOfRoom service life before
  pub fault : NodeFault
  pub applied : IsApplied wants told counts k e before after (Err fault) words more ⊎ IsUnapplied k e before after (Err fault) words more
  pub refusal_is : refusal ≡ refusal_of fault
  pub crash : IsCrashSafe told before after

-- memory was wanted for what a request says, in front of the call that asks for it, and nothing happened
pub record IsStarved (e : Event) (refusal : RoomFault) (words more : List Outward) : Type 0 where
  pub asked : asks_context e.act ≡ true
  pub refusal_is : refusal ≡ refusals.Memory
  pub unsaid : more ≡ words

-- the clock of a node went on, and its words went out
pub record HasTicked (D : Type 0) (service life now : ℕ) (words more : List Outward) : Type 0 where
  pub before : NodeState D
  pub of_room : IsOfRoom service life before
  pub words_are : more ≡ words ++ (words_in (ticks now before.node).happened ++ (ticks now before.node).words)

-- or memory was wanted on the way, and some of them did
pub record HasTickedSome (D : Type 0) (service life now : ℕ) (words more : List Outward) : Type 0 where
  pub before : NodeState D
  pub after : NodeState D
  pub of_room : IsOfRoom service life before
  pub part : HasTickedInPart now before.node after.node words more

-- a node has the object that a key names, or hasn't
pub record IsThereBy (D : Type 0) (service life : ℕ) (k : ObjectKey) (there : Bool) : Type 0 where
  pub node : NodeState D
  pub of_room : IsOfRoom service life node
  pub there_is : there ≡ node_has_object k node.node
