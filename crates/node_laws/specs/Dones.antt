-- That a decision whose Done stands is over for good (Transaction Service, interface RecoveryCoordinator; that a record stands until
-- its Done does is our profile).
use Rattle.std.specs.Prelude.{◌≡◌, ◌≢◌, ℕ, ◌≤◌, Option, Some, Contains, IsTrue}
use Rattle.std.specs.List.{AllByRecursion}
use Rattle.ior_refs.specs.declared.key.ObjectKey.{ObjectKey}
use Rattle.ots_model.specs.declared.completion.Stood.{Stood}
use Rattle.ots_model.specs.declared.completion.Stood.TheVariants as answers
use Rattle.ots_model.specs.declared.tree.Outward.{Outward}
use Rattle.decision_journal.specs.Journal.{is_decision}
use Rattle.decision_journal.specs.declared.journal.Standing.{Standing}
use Rattle.recovery_coord.specs.Held.{without}
use Rattle.recovery_coord.specs.declared.held.Held.{Held}
use Rattle.coordinator.specs.declared.event.Event.{Event}
use Rattle.coordinator.specs.Node.{Node}
use Rattle.coordinator.specs.NodeCalls.{applies, call_wants, family_for}
use Rattle.coordinator.specs.NodeTick.{ticks}
use Rattle.coordinator.specs.Step.{WritesDone}
use Rattle.family_laws.specs.OwnDecisions.{AppendsBetween, FindsOwn}
use Rattle.node_laws.specs.Rules.{GoesOn, KeepsRules}

-- the record at a place is over
pub record IsOver (n : Node) (place : ℕ) : Type 0 where
  -- no decision and no prepared record stands there
  pub stands : (s : Standing) → Contains n.found.standing s → IsTrue (is_decision s.item) → s.place ≢ place
  -- the node holds none of that place, so letting go of it changes nothing
  pub held : (h : Held) → Contains n.recovered h → h.place ≢ place
  pub let_go : without place n.recovered ≡ n.recovered
  -- and tells no word of it again, whose number would have the place
  pub silent : (now : ℕ) → AllByRecursion (λ (o : Outward). o.number.generation ≢ place) (ticks now n).words

-- once a call has asked a node that keeps its rules for the Done of a record, and it stands: then, and whatever the node does, and
-- wherever it crashes
abbrev pub DonesAreFinal : Type 0
DonesAreFinal = (edge later : ℕ) (k : ObjectKey) (e : Event) (stood : Option Stood) (n : Node) (place at : ℕ) → edge ≤ later
    → AppendsBetween edge later (call_wants k e n) stood → FindsOwn (family_for k e n) (call_wants k e n) stood n → KeepsRules edge n
    → call_wants k e n ≡ Some (WritesDone place) → stood ≡ Some (answers.Stands at)
    → (reached : ℕ) (m : Node) → GoesOn later (applies k e stood n).node reached m → IsOver m place
