-- Where what a node holds comes from: each record that it tells again is one of its journal, to all whom that names (that a record
-- goes on without its family is our profile).
use Rattle.std.specs.Prelude.{◌≡◌, ◌⊎◌, ℕ, List, Option, map, Contains}
use Rattle.ior_refs.specs.declared.key.ObjectKey.{ObjectKey}
use Rattle.ots_model.specs.declared.completion.Stood.{Stood}
use Rattle.decision_journal.specs.declared.journal.Standing.{Standing}
use Rattle.decision_journal.specs.declared.record.JournalRecord.{JournalRecord}
use Rattle.decision_journal.specs.declared.record.Registration.{Registration}
use Rattle.recovery_coord.specs.Laws.{registrations_of}
use Rattle.recovery_coord.specs.declared.held.Held.{Held}
use Rattle.recovery_coord.specs.declared.held.Party.{Party}
use Rattle.coordinator.specs.declared.event.Event.{Event}
use Rattle.coordinator.specs.Node.{Node, load}
use Rattle.coordinator.specs.NodeCalls.{applies}
use Rattle.coordinator.specs.NodeSlots.{creates}
use Rattle.coordinator.specs.NodeTick.{ticks}

-- a record is held to all whom it names
pub record IsOfStanding (standing : List Standing) (h : Held) : Type 0 where
  pub stood : Standing
  pub there : Contains standing stood
  pub same_place : stood.place ≡ h.place
  pub numbers : map (λ (p : Party). p.index) h.parties ≡ map (λ (r : Registration). r.index) (registrations_of stood.item)
  pub references : map (λ (p : Party). p.to) h.parties ≡ map (λ (r : Registration). r.reference) (registrations_of stood.item)

-- the same record was held before, to the same registrations
pub record WasHeld (records : List Held) (h : Held) : Type 0 where
  pub before : Held
  pub there : Contains records before
  pub same_place : before.place ≡ h.place
  pub numbers : map (λ (p : Party). p.index) h.parties ≡ map (λ (p : Party). p.index) before.parties
  pub references : map (λ (p : Party). p.to) h.parties ≡ map (λ (p : Party). p.to) before.parties

-- a load, a new family and a tick hold records that stand; a call holds nothing new
pub record HeldRecordsStood : Type 0 where
  pub loaded : (service : ℕ) (records : List JournalRecord) (h : Held) → Contains (load service records).recovered h
      → IsOfStanding (load service records).found.standing h
  pub made : (now seconds : ℕ) (n : Node) (h : Held) → Contains (creates now seconds n).node.recovered h
      → WasHeld n.recovered h ⊎ IsOfStanding n.found.standing h
  pub called : (k : ObjectKey) (e : Event) (stood : Option Stood) (n : Node) (h : Held) → Contains (applies k e stood n).node.recovered h
      → WasHeld n.recovered h
  pub ticked : (now : ℕ) (n : Node) (h : Held) → Contains (ticks now n).node.recovered h
      → WasHeld n.recovered h ⊎ IsOfStanding n.found.standing h
