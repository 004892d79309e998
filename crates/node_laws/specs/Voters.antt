-- That a decision record which stands names exactly the registrations that have voted commit (Transaction Service, the operations of
-- interface Resource; how a record names them is our profile).
use Rattle.std.specs.Prelude.{◌≡◌, ℕ, ◌<◌, ◌≤◌, ◌==◌, List, map, filter, Some, Contains}
use Rattle.std.specs.List.{AllByRecursion, list_any}
use Rattle.ior_refs.specs.declared.key.ObjectKey.{ObjectKey}
use Rattle.ots_model.specs.declared.completion.CallNumber.{CallNumber}
use Rattle.ots_model.specs.declared.completion.Heard.TheVariants.{Voted}
use Rattle.ots_model.specs.declared.completion.Stood.TheVariants as answers
use Rattle.ots_model.specs.declared.completion.Vote.TheVariants.{VoteCommit}
use Rattle.ots_model.specs.declared.tree.Heard.{Heard}
use Rattle.ots_model.specs.declared.tree.Outward.{Outward}
use Rattle.resource_votes.specs.Ballots.{participants}
use Rattle.two_phase.specs.Course.{Course}
use Rattle.two_phase.specs.Parties.{has_voted_commit}
use Rattle.two_phase.specs.Stages as stages
use Rattle.two_phase.specs.Stages.{Going as UnderWay}
use Rattle.two_phase.specs.declared.party.Party.{Party as Participant}
use Rattle.decision_journal.specs.declared.journal.Standing.{Standing}
use Rattle.decision_journal.specs.declared.record.JournalRecord.{JournalRecord}
use Rattle.decision_journal.specs.declared.record.Registration.{Registration}
use Rattle.recovery_coord.specs.Laws.{registrations_of}
use Rattle.coordinator.specs.declared.event.Act.TheVariants as acts
use Rattle.coordinator.specs.declared.event.Event.{Event}
use Rattle.coordinator.specs.Family.{Family}
use Rattle.coordinator.specs.Hearing.{decision_record, recorded}
use Rattle.coordinator.specs.Node.{Node, family_in}
use Rattle.coordinator.specs.NodeCalls.{applies, call_wants}
use Rattle.coordinator.specs.NodeTick.{ticks}
use Rattle.coordinator.specs.Step.{Appends, hears}
use Rattle.family_laws.specs.Sound.{HasParties}
use Rattle.node_laws.specs.Rules.{GoesOn, KeepsRules, named_as}

-- a record names one of these participants, by its number and its reference, and that one has voted commit
pub record HasVoted (parties : List Participant) (r : Registration) : Type 0 where
  pub party : Participant
  pub there : Contains parties party
  pub voted : party.ballot ≡ Some (Voted VoteCommit)
  pub number : r.index ≡ party.index
  pub reference : r.reference ≡ party.to

-- a record names exactly the registrations of a family that take part in its completion and have voted commit
pub record NamesExactly (item : JournalRecord) (f : Family) : Type 0 where
  -- the completion is under way, and goes by the list of the top-level transaction
  pub course : Course
  pub under_way : f.completion ≡ UnderWay course
  pub take_part : HasParties f.completion (participants 0 f.ballots)
  -- each participant that has voted commit is named, by its number and its reference
  pub each : AllByRecursion (λ (p : Participant). p.ballot ≡ Some (Voted VoteCommit) → Contains (registrations_of item) (named_as p.index p.to)) course.parties
  -- nobody else is
  pub alone : AllByRecursion (HasVoted course.parties) (registrations_of item)
  -- they stand in the order of the participants, each as often as it takes part
  pub in_order : registrations_of item ≡ map recorded (filter has_voted_commit course.parties)
  -- by its number a registration is named where the completion says so, as it does when its replay is asked for
  pub by_number : (g : ℕ) → list_any (λ (r : Registration). r.index == g) (registrations_of item) ≡ stages.is_named f.completion g

-- a decision that a call has asked for stands at this place in the node that the call leaves
pub record LeavesDecision (k : ObjectKey) (e : Event) (n later : Node) (item : JournalRecord) (place : ℕ) : Type 0 where
  -- the family that the call came to, and what it is behind the call
  pub family : Family
  pub came_to : family_in n.families k.slot ≡ Some family
  pub left : Family
  pub there : family_in later.families k.slot ≡ Some left
  -- the answer that the call brought it
  pub number : CallNumber
  pub heard : Heard
  pub brought : e.act ≡ acts.Answer number heard
  -- the record is the draft of that family, once it has heard the answer
  pub draft : item ≡ decision_record (hears number heard family).family
  -- this record stands there, and by it the family is decided
  pub stands : Contains later.found.standing (record { place = place; item = item })
  pub decided : stages.record_place left.completion ≡ Some place
  -- it names exactly those that have voted commit
  pub names : NamesExactly item left

-- What stands at the place of a record is that record, as long as anything stands there; and each word that is told again under its
-- number goes to a registration and a reference that it names.
pub record IsKept (m : Node) (item : JournalRecord) (place : ℕ) : Type 0 where
  pub same : (s : Standing) → Contains m.found.standing s → s.place ≡ place → s.item ≡ item
  pub told : (now : ℕ)
      → AllByRecursion (λ (o : Outward). o.number.generation ≡ place → Contains (registrations_of item) (named_as o.registration o.to)) (ticks now m).words

-- at a node that keeps its rules decisions that stand do so
pub record DecisionsNameVoters : Type 0 where
  -- the decision that a call asks the journal for, where it stands then
  pub called : (edge place : ℕ) (k : ObjectKey) (e : Event) (n : Node) (item : JournalRecord) → KeepsRules edge n
      → call_wants k e n ≡ Some (Appends item) → LeavesDecision k e n (applies k e (Some (answers.Stands place)) n).node item place
  -- and each record by which a family is decided, as long as both are there
  pub stands : (edge slot : ℕ) (n : Node) (f : Family) (s : Standing) → KeepsRules edge n → family_in n.families slot ≡ Some f
      → Contains n.found.standing s → stages.record_place f.completion ≡ Some s.place → NamesExactly s.item f
  -- The decision that a call has asked for, and that stands behind all others, is kept from then on, whatever the node does, and
  -- wherever it crashes. So nobody is told again for it but those that had voted commit.
  pub kept : (edge later place : ℕ) (k : ObjectKey) (e : Event) (n : Node) (item : JournalRecord) → KeepsRules edge n
      → call_wants k e n ≡ Some (Appends item) → edge ≤ place → place < later
      → (reached : ℕ) (m : Node) → GoesOn later (applies k e (Some (answers.Stands place)) n).node reached m → IsKept m item place
