-- What holds of each node: its families are sound and in their slots, and no decision is forgotten while its record stands
-- (Transaction Service, interface RecoveryCoordinator; that families have slots, and that a record goes on without its family, is our
-- profile).
use Rattle.std.specs.Prelude.{◌≡◌, ◌<◌, ◌≤◌, ◌⊎◌, ℕ, Bool, true, false, List, [], ◌∷◌, length, Option, Some, Contains, IsTrue}
use Rattle.std.specs.List.{AllByRecursion}
use Rattle.ior_refs.specs.declared.key.ObjectKey.{ObjectKey}
use Rattle.ots_model.specs.declared.completion.Stood.{Stood}
use Rattle.ots_model.specs.declared.completion.Stood.TheVariants as answers
use Rattle.decision_journal.specs.declared.journal.Standing.{Standing}
use Rattle.decision_journal.specs.declared.record.JournalRecord.{JournalRecord}
use Rattle.decision_journal.specs.declared.record.JournalRecord.TheVariants.{Decision}
use Rattle.recovery_coord.specs.Held.{is_held}
use Rattle.two_phase.specs.Stages as stages
use Rattle.coordinator.specs.declared.event.Event.{Event}
use Rattle.coordinator.specs.Family.{Family}
use Rattle.coordinator.specs.Limits.{slot_limit, generation_limit}
use Rattle.coordinator.specs.Node.{Node, load, family_in}
use Rattle.coordinator.specs.NodeCalls.{applies, call_wants}
use Rattle.coordinator.specs.NodeParts.{IsInSlot}
use Rattle.coordinator.specs.NodeSlots.{creates}
use Rattle.coordinator.specs.NodeTick.{ticks}
use Rattle.coordinator.specs.Step.{Wanted, Appends}
use Rattle.family_laws.specs.Sound.{IsSoundFamily}

-- a record stands before a place
abbrev pub AreBefore : ℕ → List Standing → Type 0
AreBefore place standing = AllByRecursion (λ (s : Standing). s.place < place) standing

-- each record stands behind the one before it
abbrev pub AreInOrder : List Standing → Type 0
AreInOrder [] = Unit {0}
AreInOrder (s ∷ standing) = AllByRecursion (λ (t : Standing). s.place < t.place) standing × AreInOrder standing

-- a record is the decision of a family: of its life, its slot and its number
abbrev pub IsDecisionOf : Family → JournalRecord → Type 0
IsDecisionOf f (Decision life slot generation by asked named) = (f.key.life ≡ life) × (f.key.slot ≡ slot) × (f.key.generation ≡ generation)
IsDecisionOf f _ = ⊥

abbrev pub is_family_decision : JournalRecord → Bool
is_family_decision (Decision life slot generation by asked named) = true
is_family_decision _ = false

-- the family of a record is there, decided by it
pub record HasFamilyOf (families : List (Option Family)) (s : Standing) : Type 0 where
  pub slot : ℕ
  pub family : Family
  pub there : family_in families slot ≡ Some family
  pub own : IsDecisionOf family s.item
  pub decided : stages.record_place family.completion ≡ Some s.place

-- Families are in their slots, and are sound. Records stand in order; each decision that stands is told again, or its family is
-- there.
pub record IsSoundNode (n : Node) : Type 0 where
  pub slots : length n.families ≡ slot_limit
  pub families : (slot : ℕ) (f : Family) → family_in n.families slot ≡ Some f → IsInSlot n slot f × IsSoundFamily f
  pub last : n.last < slot_limit
  pub numbers : n.generation ≤ generation_limit
  pub order : AreInOrder n.found.standing
  pub decisions : (s : Standing) → Contains n.found.standing s → IsTrue (is_family_decision s.item)
      → IsTrue (is_held s.place n.recovered) ⊎ HasFamilyOf n.families s

-- where a decision is to be appended and is, it stands behind all that stand
abbrev pub IsBehind : Option Wanted → Option Stood → Node → Type 0
IsBehind asked stood n = (item : JournalRecord) (place : ℕ) → asked ≡ Some (Appends item) → stood ≡ Some (answers.Stands place) → AreBefore place n.found.standing

-- so is a node that was loaded, and each one in which a family is made, a call comes, or time passes
pub record NodesStaySound : Type 0 where
  pub loaded : (service : ℕ) (records : List JournalRecord) → IsSoundNode (load service records)
  pub made : (now seconds : ℕ) (n : Node) → IsSoundNode n → IsSoundNode (creates now seconds n).node
  pub called : (k : ObjectKey) (e : Event) (stood : Option Stood) (n : Node) → IsBehind (call_wants k e n) stood n → IsSoundNode n
      → IsSoundNode (applies k e stood n).node
  pub ticked : (now : ℕ) (n : Node) → IsSoundNode n → IsSoundNode (ticks now n).node
