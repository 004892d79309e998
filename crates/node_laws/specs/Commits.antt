-- That each commit word rests on a decision that stands, and so does each word that is told again; commit_one_phase, by which a
-- resource decides alone, has none (Transaction Service, interface Resource; that a decision is recorded before it is told, and told
-- again without its family, is our profile).
use Rattle.std.specs.Prelude.{◌≡◌, ◌⊎◌, ℕ, ◌≤◌, Bool, List, Option, Some, Contains}
use Rattle.std.specs.List.{AllByRecursion}
use Rattle.ior_refs.specs.declared.key.ObjectKey.{ObjectKey}
use Rattle.ots_model.specs.declared.completion.Stood.{Stood}
use Rattle.ots_model.specs.declared.service.RetryKey.{RetryKey}
use Rattle.ots_model.specs.declared.tree.Outward.{Outward}
use Rattle.ots_model.specs.declared.completion.Word.TheVariants as phase_words
use Rattle.ots_model.specs.declared.tree.Word.TheVariants as words
use Rattle.decision_journal.specs.declared.journal.Standing.{Standing}
use Rattle.decision_journal.specs.declared.record.JournalRecord.TheVariants.{Decision}
use Rattle.decision_journal.specs.declared.record.Registration.{Registration}
use Rattle.recovery_coord.specs.Laws.{IsReceipted}
use Rattle.recovery_coord.specs.Telling.{number_of}
use Rattle.coordinator.specs.declared.event.Event.{Event}
use Rattle.coordinator.specs.Node.{Node, life}
use Rattle.coordinator.specs.NodeCalls.{applies, call_wants, family_for}
use Rattle.coordinator.specs.NodeTick.{Happening, ticks}
use Rattle.family_laws.specs.OwnDecisions.{AppendsBetween, FindsOwn}
use Rattle.node_laws.specs.Rules.{KeepsRules, TellsStanding, named_as}

-- A decision stands. It names the registration and the reference that a word goes to.
pub record GoesByDecision (standing : List Standing) (o : Outward) : Type 0 where
  -- the place of the record
  pub place : ℕ
  -- the life, the slot and the number of the family that has decided
  pub of_life : ℕ
  pub slot : ℕ
  pub generation : ℕ
  -- the key by which the commit was called, and whether reports were asked for
  pub by : Option RetryKey
  pub asked : Bool
  -- whom the record names
  pub named : List Registration
  pub stands : Contains standing (record { place = place; item = Decision of_life slot generation by asked named })
  pub names : Contains named (named_as o.registration o.to)

-- that decision is the word's receipt, and of the family whose word it is
pub record RestsOnOwn (standing : List Standing) (o : Outward) : Type 0 where
  pub decision : GoesByDecision standing o
  pub receipt : o.receipt ≡ Some (record { place = decision.place; registration = o.registration })
  pub same_life : decision.of_life ≡ o.number.life
  pub same_slot : decision.slot ≡ o.number.slot
  pub same_number : decision.generation ≡ o.number.generation

-- A word that is told again belongs to a decision that stands.
pub record IsOfStanding (lives : ℕ) (standing : List Standing) (o : Outward) : Type 0 where
  pub decision : GoesByDecision standing o
  -- its number is the one that is kept in this life for that record and that registration
  pub number : o.number ≡ number_of lives decision.place o.registration
  -- it tells the registration to commit, or to forget
  pub word : (o.word ≡ words.Phase phase_words.Commit) ⊎ (o.word ≡ words.Forget)
  -- that record is the receipt of a commit word; a forget word has none
  pub receipt : IsReceipted o.word decision.place o.registration o.receipt

abbrev pub CommitRests : List Standing → Outward → Type 0
CommitRests standing o = o.word ≡ words.Phase phase_words.Commit → RestsOnOwn standing o

-- at a node that keeps its rules each commit word rests so
pub record CommitsRest : Type 0 where
  -- one that a call hands out, on what stands behind that call
  pub called : (edge later : ℕ) (k : ObjectKey) (e : Event) (stood : Option Stood) (n : Node) → edge ≤ later
      → AppendsBetween edge later (call_wants k e n) stood → FindsOwn (family_for k e n) (call_wants k e n) stood n → KeepsRules edge n
      → AllByRecursion (CommitRests (applies k e stood n).node.found.standing) (applies k e stood n).words
  -- one that a family hands out at a tick
  pub ticked : (edge now : ℕ) (n : Node) → KeepsRules edge n
      → AllByRecursion (λ (h : Happening). AllByRecursion (CommitRests n.found.standing) h.words) (ticks now n).happened
  -- each word that is told again at a tick belongs to such a decision, after a load too. Of the rules this asks for one alone, of the
  -- node that the tick leaves, which keeps them where the one before does
  pub told_again : (now : ℕ) (n : Node) → TellsStanding (ticks now n).node → AllByRecursion (IsOfStanding (life n) n.found.standing) (ticks now n).words
