-- Agreement: the lines of every world that a script can reach are safe, through crashes too (Transaction Service, the two phases of
-- interfaces Terminator, Coordinator and Resource). What is known of a family is said by lines, and by the records that its node's
-- disk holds: a family in memory is gone after a crash.
use Rattle.std.specs.Prelude.{◌≡◌, ℕ, ◌+◌, ◌<◌, ◌⊎◌, ◌==◌, ◌&&◌, ◌||◌, ◌↔◌, Bool, false, not, List, [], ◌∷◌, ◌++◌, bytes_eq, slice_get, Contains, Option, Some, None, is_some, IfSome, IsTrue, ◌≤◌, length}
use Rattle.std.specs.List.{list_any}
use Rattle.std.specs.Option.{option_and_then, option_map_or}
use Rattle.ior_refs.specs.declared.key.ObjectKey.{ObjectKey}
use Rattle.ots_model.specs.Name.{IsName}
use Rattle.ots_model.specs.Safe.{AreSafe, Stands, HasConsented, IsRegistered, IsSent, IsToldCommit, TakesPart}
use Rattle.ots_model.specs.declared.completion.Ground.TheVariants.{Record}
use Rattle.ots_model.specs.declared.completion.Outcome.TheVariants as outcomes
use Rattle.ots_model.specs.declared.completion.Reason.{Reason}
use Rattle.ots_model.specs.declared.completion.Vote.{Vote}
use Rattle.ots_model.specs.declared.completion.Vote.TheVariants.{VoteCommit}
use Rattle.ots_model.specs.declared.completion.Word.TheVariants as phase_words
use Rattle.ots_model.specs.declared.line.Line.{Line}
use Rattle.ots_model.specs.declared.line.Line.TheVariants as lines
use Rattle.ots_model.specs.declared.line.ResourceState.TheVariants as shown_states
use Rattle.ots_model.specs.declared.service.RetryKey.{RetryKey}
use Rattle.ots_model.specs.declared.tree.Outward.{Outward}
use Rattle.ots_model.specs.declared.tree.Word.TheVariants as words
use Rattle.ots_world.specs.declared.script.ScriptEvent.{ScriptEvent}
use Rattle.ots_world.specs.declared.script.ScriptEvent.TheVariants as script
use Rattle.ots_world.specs.Script.{Says, reading}
use Rattle.decision_journal.specs.Journal.{found_in}
use Rattle.decision_journal.specs.Laws.{IsSettled}
use Rattle.decision_journal.specs.declared.journal.Standing.{Standing}
use Rattle.decision_journal.specs.declared.record.JournalRecord.{JournalRecord}
use Rattle.decision_journal.specs.declared.record.JournalRecord.TheVariants.{Life, Decision, Done, Prepared, CellsPrepared, CellsOutcome, CellsOnePhase}
use Rattle.decision_journal.specs.declared.record.Registration.{Registration}
use Rattle.recovery_coord.specs.Held.{is_held}
use Rattle.recovery_coord.specs.Limits.{retold_slot}
use Rattle.recovery_coord.specs.declared.held.Held.{Held}
use Rattle.resource_end.specs.declared.state.State.{State}
use Rattle.resource_end.specs.declared.state.State.TheVariants as states
use Rattle.coordinator.specs.Names.{coordinator_kind}
use Rattle.coordinator.specs.Node.{Node, family_of}
use Rattle.coordinator.specs.declared.said.Said.TheVariants as said
use Rattle.family_laws.specs.HeldRecords.{IsOfStanding}
use Rattle.nodes_world.specs.declared.deed.Deed.{Deed}
use Rattle.nodes_world.specs.declared.message.Content.TheVariants as contents
use Rattle.nodes_world.specs.declared.message.Message.{Message}
use Rattle.nodes_world.specs.declared.thing.Thing.{Thing}
use Rattle.nodes_world.specs.declared.thing.Thing.TheVariants as things
use Rattle.nodes_world.specs.Journals.{records_on}
use Rattle.nodes_world.specs.Objects.{place_of, service_at}
use Rattle.nodes_world.specs.Told.{Told, RolledBack, RolledBackBy, known}
use Rattle.nodes_world.specs.World.{World, Seat, OfNode, FlatResource, NamedKey, empty, referred, resource_at, seat_name, thing}
use Rattle.nodes_world.specs.Resolve.{resolve}
use Rattle.nodes_world.specs.Step.{carried_out, limit_before}
use Rattle.nodes_world.specs.Limits.{message_limit}

-- ---- the theorem

-- a script goes on only while there are no more messages than there may be
abbrev pub GoesOnFrom : World → Type 0
GoesOnFrom w = length w.messages ≤ message_limit

-- the name that a line of a script gives, where it gives one
abbrev pub given_name : ScriptEvent → Option (List ℕ)
given_name (script.Node name) = Some name
given_name (script.End name) = Some name
given_name (script.Begin node name seconds) = Some name
given_name (script.Sub parent name) = Some name
given_name (script.Register transaction end name) = Some name
given_name (script.Aware transaction end name) = Some name
given_name (script.Double transaction end name) = Some name
given_name _ = None

-- it is a name: it can be read in the lines that tell it, and a journal has room for a reference to an object of an end
abbrev pub GivesName : ScriptEvent → Type 0
GivesName event = IfSome (given_name event) IsName

-- all that the grammar reads does
abbrev pub ReadNamesAreNames : Type 0
ReadNamesAreNames = (line : List ℕ) (event : ScriptEvent) → reading line ≡ Says event → GivesName event

-- a script can reach the world, and these are the lines that it has told. A line that sends too many messages counts too: of its
-- lines some from the front are told.
pub data Reaches : World → List Told → Type 0 where
  nothing : Reaches empty []
  further : (w : World) (told : List Told) (event : ScriptEvent) (deed : Deed) → Reaches w told → GoesOnFrom w
      → GivesName event → resolve event w ≡ Some deed → limit_before deed w ≡ None → Reaches (carried_out deed w).world (told ++ (carried_out deed w).lines)

-- whatever a script does, the lines that are told are safe
abbrev pub Agreement : Type 0
Agreement = (w : World) (told : List Told) → Reaches w told → AreSafe (known told)

-- ---- families that are decided or closed for good

-- what has a name is a transaction with this key
abbrev pub IsTransaction : World → List ℕ → ObjectKey → Type 0
IsTransaction w name key = thing w name ≡ Some (things.Transaction key)

-- a record is the decision of this family
abbrev pub is_decision_of : ObjectKey → JournalRecord → Bool
is_decision_of key (Life life) = false
is_decision_of key (Decision life slot generation by asked regs) = life == key.life && slot == key.slot && generation == key.generation
is_decision_of key (Done place) = false
is_decision_of key (Prepared life slot generation recovery regs) = false
is_decision_of key (CellsPrepared life number recovery puts) = false
is_decision_of key (CellsOutcome place how) = false
is_decision_of key (CellsOnePhase life number puts) = false

-- the records that the disk of the node at a place holds, whether it is up or down
abbrev pub records_at : World → ℕ → Option (List JournalRecord)
records_at w place = option_and_then (λ (s : Seat). records_on (service_at place) s.disk) (slice_get w.seats place)

-- one of them is so
abbrev pub has_record : World → ℕ → (JournalRecord → Bool) → Bool
has_record w place is_so = option_map_or (λ (rs : List JournalRecord). list_any is_so rs) (records_at w place) false

-- The family is decided: its decision record stood at some moment. A line tells that, or its node's disk holds the record, which a
-- crash may have left there.
abbrev pub IsDecided : World → List Told → ObjectKey → List ℕ → Type 0
IsDecided w told key name =
    Stands (lines.Decide name (outcomes.Commit Record)) (known told) ⊎ IsTrue (has_record w (place_of key) (is_decision_of key))

-- it was rolled back, for whatever reason
pub data IsRolledBack (told : List Told) (name : List ℕ) : Type 0 where
  by_known : (reason : Reason (List ℕ)) → Stands (lines.Decide name (outcomes.Rollback reason)) (known told) → IsRolledBack told name
  by_other : (reason : List ℕ) → Contains told (RolledBack name reason) → IsRolledBack told name
  by_synchronization : (reason synchronization : List ℕ) → Contains told (RolledBackBy name reason synchronization) → IsRolledBack told name

-- its node has come up in a later life
pub record IsOutlived (w : World) (told : List Told) (key : ObjectKey) : Type 0 where
  pub server : List ℕ
  pub named : seat_name w (place_of key) ≡ Some server
  pub life : ℕ
  pub later : key.life < life
  pub up : Stands (lines.Up server life) (known told)

-- The family is closed: it was rolled back; or a later life has begun, and it was not decided. That none is decided too is
-- NoneIsBoth.
pub data IsClosed (w : World) (told : List Told) (key : ObjectKey) (name : List ℕ) : Type 0 where
  rolled_back : IsRolledBack told name → IsClosed w told key name
  outlived : IsOutlived w told key → (IsDecided w told key name → ⊥) → IsClosed w told key name

-- a transaction can't become committed up to its family any more: it was rolled back, or one above it was
pub data IsCutOff (all : List Line) : List ℕ → Type 0 where
  itself : (t : List ℕ) → Stands (lines.SubDone t false) all → IsCutOff all t
  above : (t parent : List ℕ) → Stands (lines.Sub t parent) all → IsCutOff all parent → IsCutOff all t

-- ---- what is known of every world that is reached, each part by itself

-- names have different keys
abbrev pub KeysAreOnce : World → Type 0
KeysAreOnce w = (name other : List ℕ) (named : Thing) → thing w name ≡ Some named → thing w other ≡ Some named → name ≡ other

-- a node or an end comes up in rising lives
abbrev pub LivesRise : List Told → Type 0
LivesRise told = (before behind : List Line) (server : List ℕ) (life earlier : ℕ) → known told ≡ before ++ (lines.Up server life ∷ behind)
    → Stands (lines.Up server earlier) before → earlier < life

-- a node that is up goes by the records that its disk holds, and all that the disk reads is synced
pub record FollowsDisk (place : ℕ) (s : Seat) (n : Node) : Type 0 where
  pub service : n.service ≡ service_at place
  pub records : List JournalRecord
  pub held : records_on (service_at place) s.disk ≡ Some records
  pub found : n.found ≡ found_in records
  pub settled : IsSettled s.disk

abbrev pub NodesFollowDisks : World → Type 0
NodesFollowDisks w = (place : ℕ) (s : Seat) (n : Node) → slice_get w.seats place ≡ Some s → s.server ≡ OfNode (Some n)
    → FollowsDisk place s n

-- what was sent so-many-th, counted from 0, is this word of the node or the end at a place
abbrev pub IsWord : World → ℕ → ℕ → Outward → Type 0
IsWord w nth place o = (m : Message) × (slice_get w.messages nth ≡ Some m) × (m.content ≡ contents.Request place o)

-- that one has sent this word
abbrev pub HasSent : World → ℕ → Outward → Type 0
HasSent w place o = (nth : ℕ) × IsWord w nth place o

-- A call number of one service names one object for good. No word is sent under the number of another one, unless both are told
-- again for one record.
pub record NumbersAreOnce (w : World) : Type 0 where
  pub one_object : (place : ℕ) (o other : Outward) → HasSent w place o → HasSent w place other → o.number ≡ other.number → o.to ≡ other.to
  pub one_word : (first second place : ℕ) (o other : Outward) → IsWord w first place o → IsWord w second place other
      → o.number ≡ other.number → (first ≡ second) ⊎ (o.number.slot ≡ retold_slot)

-- each word goes to an object that has a name, so a line tells it
abbrev pub WordsAreNamed : World → Type 0
WordsAreNamed w = (place : ℕ) (o : Outward) → HasSent w place o → IsTrue (is_some (referred w o.to))

-- a subtransaction ends once
abbrev pub SubtransactionsEndOnce : List Told → Type 0
SubtransactionsEndOnce told = (before behind : List Line) (t : List ℕ) (committed earlier : Bool)
    → known told ≡ before ++ (lines.SubDone t committed ∷ behind) → Stands (lines.SubDone t earlier) before → ⊥

-- a decision that a line tells is a record of its node's disk
abbrev pub DecisionsAreRecorded : World → List Told → Type 0
DecisionsAreRecorded w told = (name : List ℕ) (key : ObjectKey) → IsTransaction w name key → key.index ≡ 0
    → Stands (lines.Decide name (outcomes.Commit Record)) (known told) → IsTrue (has_record w (place_of key) (is_decision_of key))

-- no family is both decided and closed
abbrev pub NoneIsBoth : World → List Told → Type 0
NoneIsBoth w told = (name : List ℕ) (key : ObjectKey) → IsTransaction w name key → key.index ≡ 0
    → IsDecided w told key name → IsClosed w told key name → ⊥

-- the key of the family whose decision a record of the node at a place is
abbrev pub recorded_key : ℕ → ℕ → ℕ → ℕ → ObjectKey
recorded_key place life slot generation = record {
  kind = coordinator_kind;
  service = service_at place;
  life = life;
  slot = slot;
  generation = generation;
  index = 0;
}

-- a registration is of the object to which a reference leads
abbrev pub is_registration_of : List ℕ → Registration → Bool
is_registration_of to r = bytes_eq r.reference to

-- The decision of a family rests on votes: the family has a name, each of its participants has consented, and the registrations are
-- exactly those that have voted commit, each under a number of its own.
pub record RestsOnVotes (w : World) (told : List Told) (family : ObjectKey) (regs : List Registration) : Type 0 where
  pub name : List ℕ
  pub of_name : IsTransaction w name family
  pub consented : (p : List ℕ) → TakesPart p name (known told) → HasConsented p (known told)
  pub named : (to : List ℕ) → IsTrue (list_any (is_registration_of to) regs) → IsTrue (is_some (referred w to))
  pub voters : (to : List ℕ) (r : NamedKey) → referred w to ≡ Some r → IsTrue (list_any (is_registration_of to) regs)
      ↔ (TakesPart r.name name (known told) × Stands (lines.Voted r.name VoteCommit) (known told))
  -- a number is that of one of them
  pub once : (r s : Registration) → Contains regs r → Contains regs s → r.index ≡ s.index → r.reference ≡ s.reference

-- so does each decision on a disk, from the moment at which a crash may leave it there
abbrev pub RecordsRestOnVotes : World → List Told → Type 0
RecordsRestOnVotes w told = (place life slot generation : ℕ) (by : Option RetryKey) (asked : Bool) (regs : List Registration)
    (rs : List JournalRecord) → records_at w place ≡ Some rs → Contains rs (Decision life slot generation by asked regs)
    → RestsOnVotes w told (recorded_key place life slot generation) regs

-- what a node tells again is a record that stands, to all whom it names; each decision that stands is told again, or its family is
-- there
pub record HoldsDecisions (place : ℕ) (n : Node) : Type 0 where
  pub whole : (h : Held) → Contains n.recovered h → IsOfStanding n.found.standing h
  pub held : (stood : Standing) (life slot generation : ℕ) (by : Option RetryKey) (asked : Bool) (regs : List Registration)
      → Contains n.found.standing stood → stood.item ≡ Decision life slot generation by asked regs
      → IsTrue (is_held stood.place n.recovered || is_some (family_of (recorded_key place life slot generation) n))

abbrev pub DecisionsAreHeld : World → Type 0
DecisionsAreHeld w = (place : ℕ) (s : Seat) (n : Node) → slice_get w.seats place ≡ Some s → s.server ≡ OfNode (Some n) → HoldsDecisions place n

-- a record is a decision that names this object
abbrev pub names_object : List ℕ → JournalRecord → Bool
names_object to (Life life) = false
names_object to (Decision life slot generation by asked regs) = list_any (is_registration_of to) regs
names_object to (Done place) = false
names_object to (Prepared life slot generation recovery regs) = false
names_object to (CellsPrepared life number recovery puts) = false
names_object to (CellsOutcome place how) = false
names_object to (CellsOnePhase life number puts) = false

-- commit is told to those alone that a decision record of the sender's disk names
abbrev pub CommitsAreRecorded : World → Type 0
CommitsAreRecorded w = (place : ℕ) (o : Outward) → HasSent w place o → o.word ≡ words.Phase phase_words.Commit → IsTrue (has_record w place (names_object o.to))

-- the resource of this name is the only participant of its family, and the family isn't decided by a record
pub record IsAlone (w : World) (told : List Told) (name : List ℕ) : Type 0 where
  pub family : List ℕ
  pub key : ObjectKey
  pub of_name : IsTransaction w family key
  pub participant : TakesPart name family (known told)
  pub only : (p : List ℕ) → TakesPart p family (known told) → p ≡ name
  pub unrecorded : IsDecided w told key family → ⊥

-- commit_one_phase is told to those alone
abbrev pub OnePhaseIsAlone : World → List Told → Type 0
OnePhaseIsAlone w told = (name : List ℕ) → IsSent phase_words.CommitOnePhase name (known told) → IsAlone w told name

-- the resource of this name is one that rollback may be told: its family is closed, or its transaction is cut off
pub record MayBeRolledBack (w : World) (told : List Told) (name : List ℕ) : Type 0 where
  pub transaction : List ℕ
  pub key : ObjectKey
  pub named : IsTransaction w transaction key
  pub registered : IsRegistered name transaction (known told)
  pub top : List ℕ
  pub family : IsTransaction w top (record key { index = 0 })
  pub over : IsClosed w told (record key { index = 0 }) top ⊎ IsCutOff (known told) transaction

-- rollback is told to those alone
abbrev pub RollbacksAreClosed : World → List Told → Type 0
RollbacksAreClosed w told = (place : ℕ) (o : Outward) (r : NamedKey) → HasSent w place o → o.word ≡ words.Phase phase_words.Rollback → referred w o.to ≡ Some r
    → MayBeRolledBack w told r.name

-- a resource keeps its updates for the outcome, or it is over for it
abbrev pub IsBound : State → Type 0
IsBound states.Fresh = ⊥
IsBound states.Working = ⊥
IsBound states.Refused = ⊥
IsBound states.Prepared = Unit {0}
IsBound states.Applied = Unit {0}
IsBound states.Undone = Unit {0}
IsBound states.ChoseCommit = Unit {0}
IsBound states.ChoseRollback = Unit {0}
IsBound states.Forgotten = Unit {0}

-- a vote for commit comes from one that is bound
abbrev pub VotesAreBound : World → Type 0
VotesAreBound w = (number place from : ℕ) (m request : Message) (o : Outward) (name : NamedKey) (r : FlatResource)
    → slice_get w.messages number ≡ Some m → m.content ≡ contents.Reply (place + 1) (said.Voted VoteCommit)
    → slice_get w.messages place ≡ Some request → request.content ≡ contents.Request from o
    → referred w o.to ≡ Some name → resource_at w name.key ≡ Some r → IsBound r.state

-- the resource of this name was asked, and has answered this vote
pub record HasGiven (w : World) (name : List ℕ) (vote : Vote) : Type 0 where
  pub request : ℕ
  pub from : ℕ
  pub asked : Outward
  pub sent : IsWord w request from asked
  pub prepare : asked.word ≡ words.Phase phase_words.Prepare
  pub resource : NamedKey
  pub object : referred w asked.to ≡ Some resource
  pub same_name : resource.name ≡ name
  pub reply : ℕ
  pub answer : Message
  pub answered : slice_get w.messages reply ≡ Some answer
  pub says : answer.content ≡ contents.Reply (request + 1) (said.Voted vote)

-- a vote that is counted was given
abbrev pub VotesWereGiven : World → List Told → Type 0
VotesWereGiven w told = (name : List ℕ) (vote : Vote) → Stands (lines.Voted name vote) (known told) → HasGiven w name vote

-- it is over for a resource
abbrev pub IsOver : State → Type 0
IsOver states.Fresh = ⊥
IsOver states.Working = ⊥
IsOver states.Refused = ⊥
IsOver states.Prepared = ⊥
IsOver states.Applied = Unit {0}
IsOver states.Undone = Unit {0}
IsOver states.ChoseCommit = Unit {0}
IsOver states.ChoseRollback = Unit {0}
IsOver states.Forgotten = Unit {0}

-- the decision of a family doesn't stand any more among these records: a Done names it
abbrev pub is_done_in : List JournalRecord → ObjectKey → Bool
is_done_in rs key = not (list_any (λ (s : Standing). is_decision_of key s.item) (found_in rs).standing)

-- a Done names a decision each of whose resources it is over for
abbrev pub DonesAreComplete : World → Type 0
DonesAreComplete w = (place : ℕ) (rs : List JournalRecord) (key : ObjectKey) (to : List ℕ) (name : NamedKey) (r : FlatResource)
    → records_at w place ≡ Some rs → IsTrue (list_any (λ (item : JournalRecord). is_decision_of key item && names_object to item) rs)
    → IsTrue (is_done_in rs key) → referred w to ≡ Some name → resource_at w name.key ≡ Some r → IsOver r.state

-- a resource whose updates are stored was told so; one whose updates are dropped wasn't told commit
abbrev pub StatesFollow : State → List ℕ → List Line → Type 0
StatesFollow states.Applied name all = IsToldCommit name all
StatesFollow states.Undone name all = IsSent phase_words.Commit name all → ⊥
StatesFollow _ name all = Unit {0}

abbrev pub StatesFollowWords : World → List Told → Type 0
StatesFollowWords w told = (name : List ℕ) (key : ObjectKey) (r : FlatResource) → thing w name ≡ Some (things.Resource key)
    → resource_at w key ≡ Some r → StatesFollow r.state name (known told)

-- lines tell which resources have stored their updates, and which have dropped them
pub record StateIsTold (name : List ℕ) (state : State) (all : List Line) : Type 0 where
  pub applied : Stands (lines.State name shown_states.Applied) all ↔ (state ≡ states.Applied)
  pub undone : Stands (lines.State name shown_states.Undone) all ↔ (state ≡ states.Undone)

abbrev pub StatesAreTold : World → List Told → Type 0
StatesAreTold w told = (name : List ℕ) (key : ObjectKey) (r : FlatResource) → thing w name ≡ Some (things.Resource key)
    → resource_at w key ≡ Some r → StateIsTold name r.state (known told)

-- what is known together
pub record IsKnown (w : World) (told : List Told) : Type 0 where
  pub keys : KeysAreOnce w
  pub lives : LivesRise told
  pub disks : NodesFollowDisks w
  pub numbers : NumbersAreOnce w
  pub words : WordsAreNamed w
  pub ends : SubtransactionsEndOnce told
  pub recorded : DecisionsAreRecorded w told
  pub one_outcome : NoneIsBoth w told
  pub records : RecordsRestOnVotes w told
  pub held : DecisionsAreHeld w
  pub commits : CommitsAreRecorded w
  pub one_phase : OnePhaseIsAlone w told
  pub rollbacks : RollbacksAreClosed w told
  pub votes : VotesAreBound w
  pub given : VotesWereGiven w told
  pub states : StatesFollowWords w told
  pub shown : StatesAreTold w told

-- so it is of every world that is reached
abbrev pub ReachedIsKnown : Type 0
ReachedIsKnown = (w : World) (told : List Told) → Reaches w told → IsKnown w told

-- and each Done in it names a decision that is over for all whom it names
abbrev pub ReachedDonesAreComplete : Type 0
ReachedDonesAreComplete = (w : World) (told : List Told) → Reaches w told → DonesAreComplete w

-- what is decided in a world, and what is closed, is so in a later one
pub record OutcomesLast (w later : World) (told all : List Told) : Type 0 where
  pub decided : (name : List ℕ) (key : ObjectKey) → IsTransaction w name key → key.index ≡ 0
      → IsDecided w told key name → IsDecided later all key name
  pub closed : (name : List ℕ) (key : ObjectKey) → IsTransaction w name key → key.index ≡ 0
      → IsClosed w told key name → IsClosed later all key name

-- so it is, whatever a script does
abbrev pub ReachedOutcomesLast : Type 0
ReachedOutcomesLast = (w : World) (told : List Told) (event : ScriptEvent) (deed : Deed) → Reaches w told → GoesOnFrom w
    → GivesName event → resolve event w ≡ Some deed → limit_before deed w ≡ None → OutcomesLast w (carried_out deed w).world told (told ++ (carried_out deed w).lines)
