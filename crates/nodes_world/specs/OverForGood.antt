-- What has become of a resource for good: where it has stored its updates, or dropped them, it stays so, and where it is over for it,
-- that stays (Transaction Service, the operations commit, rollback and forget of interface Resource).
use Rattle.std.specs.Prelude.{◌≡◌, ℕ, ◌+◌, ◌&&◌, IsTrue, is_some, List, Some, slice_get, Contains}
use Rattle.std.specs.List.{list_any}
use Rattle.ior_refs.specs.declared.key.ObjectKey.{ObjectKey}
use Rattle.ots_model.specs.declared.completion.Ground.TheVariants.{Record}
use Rattle.ots_model.specs.declared.completion.Outcome.TheVariants as outcomes
use Rattle.ots_model.specs.declared.tree.Outward.{Outward}
use Rattle.ots_model.specs.declared.completion.Word.TheVariants as phase_words
use Rattle.ots_model.specs.declared.tree.Word.TheVariants as words
use Rattle.ots_world.specs.declared.script.ScriptEvent.{ScriptEvent}
use Rattle.resource_end.specs.declared.state.State.{State}
use Rattle.resource_end.specs.declared.state.State.TheVariants as states
use Rattle.two_phase.specs.Course.{Course}
use Rattle.two_phase.specs.Stages as stages
use Rattle.two_phase.specs.Stages.{Going as UnderWay}
use Rattle.two_phase.specs.declared.party.Party.{Party}
use Rattle.decision_journal.specs.declared.record.JournalRecord.{JournalRecord}
use Rattle.coordinator.specs.Family.{Family}
use Rattle.coordinator.specs.Node.{Node, family_in}
use Rattle.coordinator.specs.Step.{WritesDone, wanted}
use Rattle.coordinator.specs.declared.said.Said.{Said}
use Rattle.nodes_world.specs.declared.deed.Deed.{Deed}
use Rattle.nodes_world.specs.declared.message.Content.TheVariants as contents
use Rattle.nodes_world.specs.declared.message.Message.{Message}
use Rattle.nodes_world.specs.Agreement.{IsOver, IsWord, Reaches, is_decision_of, is_done_in, names_object, records_at}
use Rattle.nodes_world.specs.Deliveries.{answer_event}
use Rattle.nodes_world.specs.Ends.{obeys}
use Rattle.nodes_world.specs.Resolve.{resolve}
use Rattle.nodes_world.specs.Step.{carried_out}
use Rattle.nodes_world.specs.Told.{Told}
use Rattle.nodes_world.specs.World.{World, FlatResource, NamedKey, family_at, node_at, referred, resource_at}

-- the end of a key has its resource, and this holds of its state
pub record IsAt (P : State → Type 0) (w : World) (key : ObjectKey) : Type 0 where
  pub resource : FlatResource
  pub there : resource_at w key ≡ Some resource
  pub so : P resource.state

-- whatever a line does, it holds still
abbrev pub StaysAt : (State → Type 0) → Type 0
StaysAt P = (event : ScriptEvent) (deed : Deed) (w : World) (key : ObjectKey) → resolve event w ≡ Some deed → IsAt P w key
    → IsAt P (carried_out deed w).world key

pub record ResourcesStay : Type 0 where
  pub stored : StaysAt (λ (s : State). s ≡ states.Applied)
  pub dropped : StaysAt (λ (s : State). s ≡ states.Undone)
  pub over : StaysAt IsOver

-- in a world that a script reaches, a resource that obeys commit has stored its updates then
abbrev pub CommitsAreStored : Type 0
CommitsAreStored = (w : World) (told : List Told) (nth place : ℕ) (o : Outward) (r : NamedKey) → Reaches w told → IsWord w nth place o
    → o.word ≡ words.Phase phase_words.Commit → referred w o.to ≡ Some r → IsAt (λ (s : State). s ≡ states.Applied) (obeys (nth + 1) o w).world r.key

-- and from the moment at which it has answered
abbrev pub AnsweredCommitsAreStored : Type 0
AnsweredCommitsAreStored = (w : World) (told : List Told) (nth place reply : ℕ) (o : Outward) (m : Message) (answer : Said) (r : NamedKey)
    → Reaches w told → IsWord w nth place o → o.word ≡ words.Phase phase_words.Commit
    → slice_get w.messages reply ≡ Some m
    → m.content ≡ contents.Reply (nth + 1) answer → referred w o.to ≡ Some r → IsAt (λ (s : State). s ≡ states.Applied) w r.key

-- so has each participant of a family that is there and committed by a record, once it counts as told
abbrev pub ToldParticipantsAreStored : Type 0
ToldParticipantsAreStored = (w : World) (told : List Told) (key : ObjectKey) (f : Family) (c : Course) (p : Party) (r : NamedKey) → Reaches w told
    → family_at w key ≡ Some f → f.completion ≡ UnderWay c → stages.outcome f.completion ≡ Some (outcomes.Commit Record)
    → Contains c.parties p → IsTrue (is_some p.told) → referred w p.to ≡ Some r → IsAt (λ (s : State). s ≡ states.Applied) w r.key

-- and where a family that hears an answer asks for the Done of its own decision, so has each resource that this decision names
abbrev pub ClosedFamiliesAreStored : Type 0
ClosedFamiliesAreStored = (w : World) (told : List Told) (place : ℕ) (n : Node) (nth reply now : ℕ) (o : Outward) (m : Message) (answer : Said)
    (slot : ℕ) (f : Family) (done : ℕ) (rs : List JournalRecord) (to : List ℕ) (r : NamedKey) → Reaches w told → node_at w place ≡ Some n
    → IsWord w nth place o → slice_get w.messages reply ≡ Some m → m.content ≡ contents.Reply (nth + 1) answer
    → family_in n.families slot ≡ Some f → wanted f (answer_event o answer now) ≡ Some (WritesDone done) → records_at w place ≡ Some rs
    → IsTrue (list_any (λ (item : JournalRecord). is_decision_of f.key item && names_object to item) rs) → referred w to ≡ Some r
    → IsAt (λ (s : State). s ≡ states.Applied) w r.key

-- and from the moment at which a Done names a decision on a node's disk, so has each resource that this decision names
abbrev pub DonesAreStored : Type 0
DonesAreStored = (w : World) (told : List Told) (place : ℕ) (rs : List JournalRecord) (key : ObjectKey) (to : List ℕ) (r : NamedKey) → Reaches w told
    → records_at w place ≡ Some rs → IsTrue (list_any (λ (item : JournalRecord). is_decision_of key item && names_object to item) rs)
    → IsTrue (is_done_in rs key) → referred w to ≡ Some r → IsAt (λ (s : State). s ≡ states.Applied) w r.key
