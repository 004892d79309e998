-- What a family of a node goes on with: a decision of its own, which stands, and which the node doesn't tell again meanwhile
-- (Transaction Service, interface RecoveryCoordinator; that families have slots, and that a record goes on without its family, is
-- our profile).
use Rattle.std.specs.Prelude.{◌≡◌, ◌≢◌, ◌<◌, ◌≤◌, ℕ, false, List, Option, Some, None, Contains}
use Rattle.ior_refs.specs.declared.key.ObjectKey.{ObjectKey}
use Rattle.ots_model.specs.declared.completion.Stood.{Stood}
use Rattle.ots_model.specs.declared.completion.Stood.TheVariants as answers
use Rattle.decision_journal.specs.declared.journal.Standing.{Standing}
use Rattle.decision_journal.specs.declared.record.JournalRecord.{JournalRecord}
use Rattle.recovery_coord.specs.declared.held.Held.{Held}
use Rattle.two_phase.specs.Stages as stages
use Rattle.coordinator.specs.declared.event.Event.{Event}
use Rattle.coordinator.specs.Family.{Family}
use Rattle.coordinator.specs.Node.{Node, load, family_in}
use Rattle.coordinator.specs.NodeCalls.{applies, call_wants, family_for}
use Rattle.coordinator.specs.NodeSlots.{creates}
use Rattle.coordinator.specs.NodeTick.{ticks}
use Rattle.coordinator.specs.Step.{Wanted, Appends, WritesDone, Rereads, wanted, is_finished}
use Rattle.family_laws.specs.SoundNode.{AreBefore, IsDecisionOf, IsSoundNode}

-- a record stands at this place
pub record StandsAt (standing : List Standing) (place : ℕ) : Type 0 where
  pub stood : Standing
  pub there : Contains standing stood
  pub at : stood.place ≡ place

-- the decision of a family stands at this place, and isn't told again
pub record HasDecision (n : Node) (f : Family) (place : ℕ) : Type 0 where
  pub stood : Standing
  pub there : Contains n.found.standing stood
  pub at : stood.place ≡ place
  pub own : IsDecisionOf f stood.item
  pub untold : (h : Held) → Contains n.recovered h → h.place ≢ place

-- a family is decided, its Done was not asked for, and it isn't finished
pub record IsUnclosed (f : Family) (place : ℕ) : Type 0 where
  pub decided : stages.record_place f.completion ≡ Some place
  pub unasked : f.closed ≡ None
  pub going : is_finished f ≡ false

-- A sound node, whose records all stand before an edge. Each family is decided by its own record; what is told again stands; what a
-- family goes on with stands, and isn't told again.
pub record KeepsDecisions (edge : ℕ) (n : Node) : Type 0 where
  pub sound : IsSoundNode n
  pub before : AreBefore edge n.found.standing
  pub decided : (slot place : ℕ) (f : Family) → family_in n.families slot ≡ Some f → stages.record_place f.completion ≡ Some place → place < edge
  pub own : (slot : ℕ) (f : Family) (s : Standing) → family_in n.families slot ≡ Some f → Contains n.found.standing s
      → stages.record_place f.completion ≡ Some s.place → IsDecisionOf f s.item
  pub held : (h : Held) → Contains n.recovered h → StandsAt n.found.standing h.place
  pub unclosed : (slot place : ℕ) (f : Family) → family_in n.families slot ≡ Some f → IsUnclosed f place → HasDecision n f place

-- where a decision is appended, it stands behind the edge, and before the next one
abbrev pub AppendsBetween : ℕ → ℕ → Option Wanted → Option Stood → Type 0
AppendsBetween edge later asked stood = (item : JournalRecord) (place : ℕ) → asked ≡ Some (Appends item) → stood ≡ Some (answers.Stands place)
    → (edge ≤ place) × (place < later)

-- where a family reads its decision again, and finds it, it is its own
abbrev pub FindsOwn : Option Family → Option Wanted → Option Stood → Node → Type 0
FindsOwn called asked stood n = (f : Family) (place : ℕ) → called ≡ Some f → asked ≡ Some Rereads → stood ≡ Some (answers.Stands place)
    → HasDecision n f place

-- So is a node that was loaded, and each one in which a family is made, a call comes, or time passes; the edge goes on with the journal.
-- A family that asks for its Done asks for that of its own decision, which stands and isn't told again.
pub record NodesKeepDecisions : Type 0 where
  pub loaded : (edge service : ℕ) (records : List JournalRecord) → AreBefore edge (load service records).found.standing
      → KeepsDecisions edge (load service records)
  pub made : (edge now seconds : ℕ) (n : Node) → KeepsDecisions edge n → KeepsDecisions edge (creates now seconds n).node
  pub called : (edge later : ℕ) (k : ObjectKey) (e : Event) (stood : Option Stood) (n : Node) → edge ≤ later
      → AppendsBetween edge later (call_wants k e n) stood → FindsOwn (family_for k e n) (call_wants k e n) stood n → KeepsDecisions edge n
      → KeepsDecisions later (applies k e stood n).node
  pub ticked : (edge now : ℕ) (n : Node) → KeepsDecisions edge n → KeepsDecisions edge (ticks now n).node
  pub closes : (edge slot place : ℕ) (f : Family) (e : Event) (n : Node) → KeepsDecisions edge n → family_in n.families slot ≡ Some f
      → wanted f e ≡ Some (WritesDone place) → HasDecision n f place
