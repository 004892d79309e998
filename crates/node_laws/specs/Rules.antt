-- What a node keeps beside its own decisions: which families and which records the decisions that stand are of, whom they name, and
-- what is told again of them (Transaction Service, the operations of interfaces Resource and RecoveryCoordinator; that a decision is
-- recorded, and told again without its family, is our profile).
use Rattle.std.specs.Prelude.{◌≡◌, ◌≢◌, ◌⊎◌, ℕ, ◌<◌, ◌≤◌, false, List, map, filter, Option, Some, None, Contains}
use Rattle.std.specs.List.{AllByRecursion}
use Rattle.ior_refs.specs.declared.key.ObjectKey.{ObjectKey}
use Rattle.ots_model.specs.declared.completion.Ground.TheVariants.{Record}
use Rattle.ots_model.specs.declared.completion.Heard.TheVariants.{Voted}
use Rattle.ots_model.specs.declared.completion.Stood.{Stood}
use Rattle.ots_model.specs.declared.completion.Vote.TheVariants.{VoteCommit}
use Rattle.ots_model.specs.Numbered.{Outcome}
use Rattle.ots_model.specs.declared.completion.Outcome.TheVariants.{Commit}
use Rattle.two_phase.specs.Course as course
use Rattle.two_phase.specs.Parties.{has_voted_commit}
use Rattle.two_phase.specs.Stages as stages
use Rattle.two_phase.specs.Stages.{Standing as Completion, Waiting, Going as UnderWay}
use Rattle.two_phase.specs.declared.party.Party.{Party as Participant}
use Rattle.decision_journal.specs.Journal.{found_in}
use Rattle.decision_journal.specs.declared.journal.Standing.{Standing}
use Rattle.decision_journal.specs.declared.record.JournalRecord.{JournalRecord}
use Rattle.decision_journal.specs.declared.record.JournalRecord.TheVariants.{Decision, Prepared}
use Rattle.decision_journal.specs.declared.record.Registration.{Registration}
use Rattle.recovery_coord.specs.Held.{is_decided}
use Rattle.recovery_coord.specs.declared.held.Due.TheVariants as due
use Rattle.recovery_coord.specs.declared.held.Held.{Held}
use Rattle.recovery_coord.specs.declared.held.Party.{Party}
use Rattle.coordinator.specs.declared.event.Event.{Event}
use Rattle.coordinator.specs.Family.{Family}
use Rattle.coordinator.specs.Hearing.{recorded}
use Rattle.coordinator.specs.Node.{Node, family_in, life, load}
use Rattle.coordinator.specs.NodeCalls.{applies, call_wants, family_for}
use Rattle.coordinator.specs.NodeSlots.{creates}
use Rattle.coordinator.specs.NodeTick.{ticks}
use Rattle.family_laws.specs.OwnDecisions.{AppendsBetween, FindsOwn, KeepsDecisions}
use Rattle.family_laws.specs.SoundNode.{AreBefore, IsDecisionOf}

-- a decision is of a life up to this one
abbrev pub IsOfPast : ℕ → JournalRecord → Type 0
IsOfPast lives (Decision of_life slot generation by asked named) = of_life ≤ lives
IsOfPast lives _ = Unit {0}

-- a decision is of an earlier life than a node's, or of this one and of a family that was made in it
abbrev pub IsOfGiven : Node → JournalRecord → Type 0
IsOfGiven n (Decision of_life slot generation by asked named) = (of_life < life n) ⊎ ((of_life ≡ life n) × (generation ≤ n.generation))
IsOfGiven n _ = Unit {0}

-- what a record says of a registration: its number and its reference
abbrev pub named_as : ℕ → List ℕ → Registration
named_as index to = record { index = index; reference = to }

-- a decision names those of these that have voted commit, each by its number and its reference, in their order, and nobody else
abbrev pub NamesVoters : List Registration → List Participant → Type 0
NamesVoters named parties = named ≡ map recorded (filter has_voted_commit parties)

-- a record is a decision that names so the participants of a completion
abbrev pub NamesVotersOf : JournalRecord → Completion → Type 0
NamesVotersOf (Decision of_life slot generation by asked named) (UnderWay c) = NamesVoters named c.parties
NamesVotersOf _ _ = ⊥

-- the outcome is fixed, and each participant that has voted commit has answered the word that told it
abbrev pub HasToldAll : Completion → Type 0
HasToldAll (Waiting room) = ⊥
HasToldAll (UnderWay c) = (fixed : Outcome) × (course.outcome c ≡ Some fixed)
    × AllByRecursion (λ (p : Participant). p.ballot ≡ Some (Voted VoteCommit) → p.told ≢ None) c.parties

-- what is told again of a record: a decision to registrations that it names, and of a prepared record nothing
abbrev pub IsToldOf : JournalRecord → Held → Type 0
IsToldOf (Decision of_life slot generation by asked named) h = AllByRecursion (λ (p : Party). Contains named (named_as p.index p.to)) h.parties
IsToldOf (Prepared of_life slot generation recovery named) h = (is_decided h.kind ≡ false) × AllByRecursion (λ (p : Party). p.due ≡ due.Nothing) h.parties
IsToldOf _ h = ⊥

-- a record that is told again stands
pub record IsOfRecord (standing : List Standing) (h : Held) : Type 0 where
  pub stood : Standing
  pub there : Contains standing stood
  pub same_place : stood.place ≡ h.place
  pub told : IsToldOf stood.item h

-- what a node tells again is told of records that stand
abbrev pub TellsStanding : Node → Type 0
TellsStanding n = (h : Held) → Contains n.recovered h → IsOfRecord n.found.standing h

-- a node that keeps its rules; all records that stand, and by which families are decided, are before this edge
pub record KeepsRules (edge : ℕ) (n : Node) : Type 0 where
  -- what families go on with stands, and isn't told again
  pub decisions : KeepsDecisions edge n
  -- each decision that stands is of an earlier life, or of a family that was made in this one
  pub given : (s : Standing) → Contains n.found.standing s → IsOfGiven n s.item
  -- where the family of such a decision is there, it is committed by a record
  pub committed : (slot : ℕ) (f : Family) (s : Standing) → family_in n.families slot ≡ Some f → Contains n.found.standing s
      → IsDecisionOf f s.item → stages.outcome f.completion ≡ Some (Commit Record)
  -- the record by which a family is decided names exactly those of its participants that have voted commit
  pub named : (slot : ℕ) (f : Family) (s : Standing) → family_in n.families slot ≡ Some f → Contains n.found.standing s
      → stages.record_place f.completion ≡ Some s.place → NamesVotersOf s.item f.completion
  -- once a family has asked for its Done, each of these has answered the word that told it the outcome
  pub through : (slot : ℕ) (f : Family) → family_in n.families slot ≡ Some f → f.closed ≢ None → HasToldAll f.completion
  -- what is told again is told of records that stand
  pub held : TellsStanding n

-- the decisions of these records are of lives that they have begun
abbrev pub AreOfPast : List JournalRecord → Type 0
AreOfPast records = (s : Standing) → Contains (found_in records).standing s → IsOfPast (found_in records).life s.item

-- What a node becomes, by any number of these: a family is made, a call comes, time passes, or it crashes and is loaded from records
-- by which such a node went. A crash inside an append leaves those from before the call, or those behind it, where its record stands.
-- The edge goes on with the journal.
pub data GoesOn (edge : ℕ) (n : Node) : ℕ → Node → Type 0 where
  still : GoesOn edge n edge n
  made : (now seconds reached : ℕ) (later : Node) → GoesOn edge n reached later → GoesOn edge n reached (creates now seconds later).node
  called : (k : ObjectKey) (e : Event) (stood : Option Stood) (reached end : ℕ) (later : Node) → GoesOn edge n reached later → reached ≤ end
      → AppendsBetween reached end (call_wants k e later) stood → FindsOwn (family_for k e later) (call_wants k e later) stood later
      → GoesOn edge n end (applies k e stood later).node
  ticked : (now reached : ℕ) (later : Node) → GoesOn edge n reached later → GoesOn edge n reached (ticks now later).node
  loaded : (records : List JournalRecord) (reached end : ℕ) (later : Node) → GoesOn edge n reached later → reached ≤ end
      → later.found ≡ found_in records → AreBefore end (load later.service records).found.standing → GoesOn edge n end (load later.service records)

-- Such is a node that was loaded from records whose lives have begun, and each one in which a family is made, a call comes, or time
-- passes. What it goes by are records whose lives have begun; so it goes on over crashes.
pub record NodesKeepRules : Type 0 where
  pub loaded : (edge service : ℕ) (records : List JournalRecord) → AreBefore edge (load service records).found.standing → AreOfPast records
      → KeepsRules edge (load service records)
  pub made : (edge now seconds : ℕ) (n : Node) → KeepsRules edge n → KeepsRules edge (creates now seconds n).node
  pub called : (edge later : ℕ) (k : ObjectKey) (e : Event) (stood : Option Stood) (n : Node) → edge ≤ later
      → AppendsBetween edge later (call_wants k e n) stood → FindsOwn (family_for k e n) (call_wants k e n) stood n → KeepsRules edge n
      → KeepsRules later (applies k e stood n).node
  pub ticked : (edge now : ℕ) (n : Node) → KeepsRules edge n → KeepsRules edge (ticks now n).node
  pub leaves : (edge : ℕ) (n : Node) (records : List JournalRecord) → KeepsRules edge n → n.found ≡ found_in records → AreOfPast records
  pub goes_on : (edge reached : ℕ) (n later : Node) → KeepsRules edge n → GoesOn edge n reached later → KeepsRules reached later
