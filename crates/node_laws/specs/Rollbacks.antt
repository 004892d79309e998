-- That no decision is recorded of a family that is rolled back (Transaction Service, interface Resource; that a decision is recorded,
-- and that families have slots, is our profile).
use Rattle.std.specs.Prelude.{◌≡◌, ◌⊎◌, ℕ, ◌≤◌, Option, Some, Contains}
use Rattle.std.specs.List.{AllByRecursion}
use Rattle.ior_refs.specs.declared.key.ObjectKey.{ObjectKey}
use Rattle.ots_model.specs.declared.completion.Stood.{Stood}
use Rattle.ots_model.specs.declared.tree.Outward.{Outward}
use Rattle.ots_model.specs.declared.completion.Word.TheVariants as phase_words
use Rattle.ots_model.specs.declared.tree.Word.TheVariants as words
use Rattle.resource_votes.specs.declared.registration.Registration.{Registration}
use Rattle.two_phase.specs.Stages as stages
use Rattle.decision_journal.specs.declared.journal.Standing.{Standing}
use Rattle.decision_journal.specs.declared.record.JournalRecord.{JournalRecord}
use Rattle.coordinator.specs.declared.event.Event.{Event}
use Rattle.coordinator.specs.Family.{Family}
use Rattle.coordinator.specs.Node.{Node, family_in}
use Rattle.coordinator.specs.NodeCalls.{applies, call_wants, family_for}
use Rattle.coordinator.specs.NodeTick.{Happening, ticks}
use Rattle.coordinator.specs.Step.{Appends}
use Rattle.family_laws.specs.LawsOfSteps.{IsRolledBack}
use Rattle.family_laws.specs.OwnDecisions.{AppendsBetween, FindsOwn}
use Rattle.family_laws.specs.SoundNode.{IsDecisionOf}
use Rattle.family_laws.specs.Trees.{IsCutOff}
use Rattle.node_laws.specs.Rules.{GoesOn, KeepsRules}

-- no decision of a family stands at a node, nor is one asked for, nor will one be, whatever the node does, and wherever it crashes
pub record IsNeverDecided (edge : ℕ) (n : Node) (f : Family) : Type 0 where
  -- none stands, now or later
  pub none : (reached : ℕ) (later : Node) (s : Standing) → GoesOn edge n reached later → Contains later.found.standing s
      → IsDecisionOf f s.item → ⊥
  -- no call asks the journal to append one
  pub unasked : (reached : ℕ) (later : Node) (k : ObjectKey) (e : Event) (item : JournalRecord) → GoesOn edge n reached later
      → call_wants k e later ≡ Some (Appends item) → IsDecisionOf f item → ⊥

-- A rollback word is of the family in the slot that its number has. It goes to a registration that is cut off, or the family is never
-- decided.
pub record IsOfUndecided (edge : ℕ) (n : Node) (o : Outward) : Type 0 where
  pub family : Family
  pub there : family_in n.families o.number.slot ≡ Some family
  pub same_life : family.key.life ≡ o.number.life
  pub same_number : family.key.generation ≡ o.number.generation
  pub r : Registration
  pub registration : r.index ≡ o.registration
  pub reference : r.to ≡ o.to
  pub rests : IsCutOff family.rows r.branch ⊎ IsNeverDecided edge n family

abbrev pub RollbackRests : ℕ → Node → Outward → Type 0
RollbackRests edge n o = o.word ≡ words.Phase phase_words.Rollback → IsOfUndecided edge n o

-- at a node that keeps its rules a family that is rolled back is never decided, and each rollback word rests on that, unless it
-- goes to one that is cut off
pub record RollbacksAreUndecided : Type 0 where
  pub rolled_back : (edge slot : ℕ) (n : Node) (f : Family) → KeepsRules edge n → family_in n.families slot ≡ Some f
      → IsRolledBack (stages.outcome f.completion) → IsNeverDecided edge n f
  -- the words that a call hands out
  pub called : (edge later : ℕ) (k : ObjectKey) (e : Event) (stood : Option Stood) (n : Node) → edge ≤ later
      → AppendsBetween edge later (call_wants k e n) stood → FindsOwn (family_for k e n) (call_wants k e n) stood n → KeepsRules edge n
      → AllByRecursion (RollbackRests later (applies k e stood n).node) (applies k e stood n).words
  -- those that families hand out at a tick
  pub ticked : (edge now : ℕ) (n : Node) → KeepsRules edge n
      → AllByRecursion (λ (h : Happening). AllByRecursion (RollbackRests edge (ticks now n).node) h.words) (ticks now n).happened
