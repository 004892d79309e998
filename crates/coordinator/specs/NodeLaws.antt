-- What holds of every node: its life and its numbers are never used twice (our profile).
use Rattle.std.specs.Prelude.{◌≡◌, ℕ, ◌+◌, ◌<◌, ◌≤◌, List, Option, Ok}
use Rattle.ior_refs.specs.declared.key.ObjectKey.{ObjectKey}
use Rattle.ots_model.specs.declared.completion.Stood.{Stood}
use Rattle.decision_journal.specs.Journal.{found_in}
use Rattle.decision_journal.specs.declared.record.JournalRecord.{JournalRecord}
use Rattle.coordinator.specs.declared.event.Event.{Event}
use Rattle.coordinator.specs.Family.{Family}
use Rattle.coordinator.specs.Node.{Node, load, life}
use Rattle.coordinator.specs.NodeSlots.{makes}
use Rattle.coordinator.specs.NodeCalls.{applies}
use Rattle.coordinator.specs.NodeTick.{ticks}

-- what a node becomes in one life: a family is made, a call comes, or its clock goes on
pub data NodeBecomes : Node → Node → Type 0 where
  by_making : (make : ObjectKey → Family) (n : Node) → NodeBecomes n (makes make n).node
  by_call : (k : ObjectKey) (e : Event) (stood : Option Stood) (n : Node) → NodeBecomes n (applies k e stood n).node
  by_tick : (now : ℕ) (n : Node) → NodeBecomes n (ticks now n).node

-- and by any number of these
pub data NodeGoesOn (n : Node) : Node → Type 0 where
  still : NodeGoesOn n n
  further : (between later : Node) → NodeGoesOn n between → NodeBecomes between later → NodeGoesOn n later

-- the life stays, and numbers never fall
pub record KeepsNumbers (n later : Node) : Type 0 where
  pub same_life : life later ≡ life n
  pub rises : n.generation ≤ later.generation

abbrev pub NodesKeepNumbers : Type 0
NodesKeepNumbers = (n later : Node) → NodeGoesOn n later → KeepsNumbers n later

-- a family that is made later in the same life has a greater number
pub record IsLater (first second : ObjectKey) : Type 0 where
  pub same_life : second.life ≡ first.life
  pub greater : first.generation < second.generation

abbrev pub KeysAreNew : Type 0
KeysAreNew = (make other : ObjectKey → Family) (n later : Node) (first second : ObjectKey)
    → (makes make n).answer ≡ Ok first → NodeGoesOn (makes make n).node later → (makes other later).answer ≡ Ok second
    → IsLater first second

-- a load begins the life behind the last one of the records that it reads
abbrev pub LivesRise : Type 0
LivesRise = (service : ℕ) (records : List JournalRecord) → life (load service records) ≡ (found_in records).life + 1
