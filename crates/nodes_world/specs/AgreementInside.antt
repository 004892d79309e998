-- What is known of every world that a script can reach, so that one more step keeps it: the parts of agreement, each of what one kind
-- of line, message or record says. The lines so far come newest first.
use Rattle.std.specs.Prelude.{◌≡◌, ◌↔◌, ℕ, ◌<◌, ◌≤◌, ◌⊎◌, ◌+◌, Bool, true, false, List, length, map, reverse, slice_get, Contains, Option, Some, None, IsTrue, is_some, ◌∷◌, []}
use Rattle.std.specs.List.{Any, AllByRecursion, flat_map}
use Rattle.std.specs.Option.{option_map_or, option_and_then, option_map}
use Rattle.ior_refs.specs.declared.key.ObjectKey.{ObjectKey}
use Rattle.ots_model.specs.Limits.{name_limit, registration_limit}
use Rattle.ots_model.specs.Safe.{Stands, IsRegistered, IsSent, IsToldCommit, IsToldRollback, IsTop}
use Rattle.ots_model.specs.SafeByLine.{AreAllowed}
use Rattle.ots_model.specs.declared.completion.Ground.TheVariants.{Record}
use Rattle.ots_model.specs.Numbered.{LineOutcome}
use Rattle.ots_model.specs.declared.completion.Vote.{Vote}
use Rattle.ots_model.specs.declared.completion.Vote.TheVariants.{VoteCommit, VoteReadOnly, VoteRollback}
use Rattle.ots_model.specs.declared.completion.Word.{Word as Phase}
use Rattle.ots_model.specs.declared.completion.Word.TheVariants as phase_words
use Rattle.ots_model.specs.declared.line.Line.{Line}
use Rattle.ots_model.specs.declared.line.Line.TheVariants as lines
use Rattle.ots_model.specs.declared.line.ResourceState.{ResourceState}
use Rattle.ots_model.specs.declared.line.ResourceState.TheVariants as shown
use Rattle.ots_model.specs.declared.service.RetryKey.{RetryKey}
use Rattle.ots_model.specs.Numbered.{Outcome}
use Rattle.ots_model.specs.declared.completion.Outcome.TheVariants as outcomes
use Rattle.ots_model.specs.declared.tree.Outward.{Outward}
use Rattle.ots_model.specs.declared.tree.Word.{Word}
use Rattle.ots_model.specs.declared.tree.Word.TheVariants as words
use Rattle.resource_votes.specs.Ballots.{Ballots, participants}
use Rattle.resource_votes.specs.declared.registration.Registration.{Registration}
use Rattle.txn_tree.specs.Rows.{parent, state}
use Rattle.txn_tree.specs.declared.row.State.{State as BranchState}
use Rattle.txn_tree.specs.declared.row.State.TheVariants as rows
use Rattle.two_phase.specs.Course.{Course, decides_alone, first_word}
use Rattle.two_phase.specs.Stages as stages
use Rattle.two_phase.specs.Stages.{Standing as Completion, Waiting, Going as UnderWay}
use Rattle.two_phase.specs.declared.party.Errand.{Errand}
use Rattle.two_phase.specs.declared.party.Party.{Party}
use Rattle.two_phase.specs.declared.party.Stage.{Stage as Round}
use Rattle.two_phase.specs.declared.party.Stage.TheVariants as rounds
use Rattle.decision_journal.specs.Journal.{Holds, first_gate, found_in}
use Rattle.decision_journal.specs.Laws.{IsSettled}
use Rattle.decision_journal.specs.Layout.{record_octets}
use Rattle.decision_journal.specs.declared.journal.Standing.{Standing}
use Rattle.decision_journal.specs.declared.record.Registration.{Registration as Named}
use Rattle.decision_journal.specs.declared.record.JournalRecord.{JournalRecord}
use Rattle.decision_journal.specs.declared.record.JournalRecord.TheVariants.{Decision, Prepared}
use Rattle.recovery_coord.specs.Laws.{registrations_of}
use Rattle.recovery_coord.specs.Limits.{retold_slot}
use Rattle.recovery_coord.specs.declared.held.Held.{Held}
use Rattle.recovery_coord.specs.declared.held.Party.{Party as HeldParty}
use Rattle.resource_end.specs.declared.state.State.{State}
use Rattle.resource_end.specs.declared.state.State.TheVariants as states
use Rattle.coordinator.specs.Closing.{notice_of}
use Rattle.coordinator.specs.Family.{Family, Call, Duty, call_at}
use Rattle.coordinator.specs.Moves.{Notice}
use Rattle.coordinator.specs.declared.call.Leg.{Leg}
use Rattle.coordinator.specs.declared.call.Leg.TheVariants.{Below, Own, Before, Deciding, After}
use Rattle.coordinator.specs.Names.{coordinator_kind}
use Rattle.family_laws.specs.Sound.{IsSoundFamily, IsAsking, called}
use Rattle.family_laws.specs.LawsOfTelling.{IsVoted}
use Rattle.family_laws.specs.OwnDecisions.{KeepsDecisions}
use Rattle.coordinator.specs.Node.{Node, is_of, life}
use Rattle.coordinator.specs.declared.event.Act.{Act}
use Rattle.coordinator.specs.NodeParts.{IsWhole}
use Rattle.coordinator.specs.declared.event.Act.{Act}
use Rattle.coordinator.specs.declared.said.Entry.{Entry}
use Rattle.coordinator.specs.declared.said.Said.{Said}
use Rattle.coordinator.specs.declared.said.Said.TheVariants as said
use Rattle.nodes_world.specs.declared.message.Content.TheVariants as contents
use Rattle.nodes_world.specs.declared.message.Message.{Message}
use Rattle.nodes_world.specs.declared.thing.Thing.{Thing}
use Rattle.nodes_world.specs.declared.thing.Thing.TheVariants as things
use Rattle.nodes_world.specs.Agreement.{DecisionsAreHeld, DecisionsAreRecorded, HasSent, IsTransaction, IsWord, KeysAreOnce, LivesRise, NodesFollowDisks, NoneIsBoth, NumbersAreOnce, OnePhaseIsAlone, RecordsRestOnVotes, RollbacksAreClosed, CommitsAreRecorded, SubtransactionsEndOnce, VotesWereGiven, WordsAreNamed, has_record, is_decision_of, recorded_key, records_at, IsRolledBack, StatesFollow}
use Rattle.nodes_world.specs.Laws.{IsInOrder}
use Rattle.nodes_world.specs.Limits.{message_limit, script_client, seat_limit}
use Rattle.nodes_world.specs.Objects.{place_of, service_at, resource_key}
use Rattle.nodes_world.specs.Told.{Told, known}
use Rattle.nodes_world.specs.World.{World, Seat, OfNode, FlatEnd, FlatResource, NamedKey, end_at, family_at, node_at, referred, resource_at, seat_name, thing}
use Rattle.nodes_world.specs.declared.deed.Manner.{Manner}

-- ---- names

-- the transaction of this name and key was made, and a line tells it
abbrev pub IsMade : World → List Line → List ℕ → ObjectKey → Type 0
IsMade w h name key = IsTransaction w name key × (IsTop name h ⊎ ((above : List ℕ) × Stands (lines.Sub name above) h))

pub record NamesAreTold (w : World) (h : List Line) : Type 0 where
  pub keys : KeysAreOnce w
  -- a name is given once
  pub once : (name : List ℕ) (named : Thing) → Contains w.names (name, named) → thing w name ≡ Some named
  pub transactions : (name : List ℕ) (key : ObjectKey) → IsTransaction w name key → IsMade w h name key
  pub kinds : (name : List ℕ) (key : ObjectKey) → IsTransaction w name key → key.kind ≡ coordinator_kind
  pub services : (name : List ℕ) (key : ObjectKey) → IsTransaction w name key → 0 < key.service
  pub tops : (name node : List ℕ) → Stands (lines.Top name node) h → (key : ObjectKey) × IsTransaction w name key × (key.index ≡ 0)
  pub subs : (name above : List ℕ) → Stands (lines.Sub name above) h
      → (key : ObjectKey) × (higher : ObjectKey) × IsTransaction w name key × IsTransaction w above higher × (0 < key.index)
      × (record key { index = higher.index } ≡ higher)
  -- only a subtransaction is told to end
  pub ended : (name : List ℕ) (committed : Bool) → Stands (lines.SubDone name committed) h
      → (key : ObjectKey) × IsTransaction w name key × (0 < key.index)
  pub one_parent : (name above other : List ℕ) → Stands (lines.Sub name above) h → Stands (lines.Sub name other) h → above ≡ other
  pub resources : (name : List ℕ) (key : ObjectKey) → thing w name ≡ Some (things.Resource key)
      → (r : FlatResource) × (resource_at w key ≡ Some r) × (r.key ≡ key)
  pub registered : (name t : List ℕ) → IsRegistered name t h
      → (key : ObjectKey) × (of : ObjectKey) × (thing w name ≡ Some (things.Resource key)) × IsTransaction w t of
  pub one_transaction : (name t other : List ℕ) → IsRegistered name t h → IsRegistered name other h → t ≡ other
  pub no_import : (name above node : List ℕ) → Stands (lines.Imp name above node) h → ⊥
  -- each resource is an object of an end
  pub objects : (name : List ℕ) (key : ObjectKey) → thing w name ≡ Some (things.Resource key)
      → (manner : Manner) × (place number : ℕ) × (key ≡ resource_key manner place number)
  -- only a resource is told to come into a state
  pub shown : (name : List ℕ) (s : ResourceState) → Stands (lines.State name s) h → (key : ObjectKey) × (thing w name ≡ Some (things.Resource key))

-- ---- seats

pub record SeatsAreNamed (w : World) (h : List Line) : Type 0 where
  -- a seat has its name, and a name of a seat is that of one that is there
  pub named : (place : ℕ) (s : Seat) → slice_get w.seats place ≡ Some s → thing w s.name ≡ Some (things.Seat place)
  pub there : (name : List ℕ) (place : ℕ) → thing w name ≡ Some (things.Seat place)
      → (s : Seat) × (slice_get w.seats place ≡ Some s) × (s.name ≡ name)
  -- no other one has come up
  pub up : (name : List ℕ) (life : ℕ) → Stands (lines.Up name life) h → (place : ℕ) × (thing w name ≡ Some (things.Seat place))
  -- nor has any other one sent a word
  pub senders : (place : ℕ) (o : Outward) → HasSent w place o → IsTrue (is_some (slice_get w.seats place))
  pub few : length w.seats ≤ seat_limit
  -- a client's call was delivered when it was made, which is while a script goes on
  pub calls : (nth : ℕ) (m : Message) (to : ObjectKey) (act : Act) → slice_get w.messages nth ≡ Some m → m.content ≡ contents.Call to act
      → (m.delivered ≡ true) × (nth ≤ message_limit)

-- ---- disks

abbrev pub is_prepared : JournalRecord → Bool
is_prepared (Prepared life slot generation recovery regs) = true
is_prepared _ = false

pub record DisksAreKnown (w : World) (told : List Told) : Type 0 where
  pub held : (place : ℕ) (s : Seat) (up : Option Node) → slice_get w.seats place ≡ Some s → s.server ≡ OfNode up
      → (rs : List JournalRecord) × Holds (service_at place) s.disk.reads rs × (records_at w place ≡ Some rs)
  pub whole : (place : ℕ) (s : Seat) (n : Node) → slice_get w.seats place ≡ Some s → s.server ≡ OfNode (Some n) → IsWhole n
  pub follows : NodesFollowDisks w
  pub decisions : DecisionsAreHeld w
  pub rise : LivesRise told
  -- a life that is told isn't above that of the disk, so a load begins one that wasn't told
  pub lives : (place : ℕ) (s : Seat) (up : Option Node) (life : ℕ) (rs : List JournalRecord) → slice_get w.seats place ≡ Some s
      → s.server ≡ OfNode up → Stands (lines.Up s.name life) (known told) → records_at w place ≡ Some rs → life ≤ (found_in rs).life
  -- no tree has a superior
  pub no_superior : (place : ℕ) (rs : List JournalRecord) (r : JournalRecord) → records_at w place ≡ Some rs → Contains rs r
      → is_prepared r ≡ false
  -- where a node is down, all that its disk reads is synced
  pub rests : (place : ℕ) (s : Seat) → slice_get w.seats place ≡ Some s → s.server ≡ OfNode None → IsSettled s.disk

-- ---- messages and their lines

abbrev pub phase_of : Word → Option Phase
phase_of (words.Phase word) = Some word
phase_of _ = None

-- each record, with the place of its gate
abbrev pub placed : ℕ → List JournalRecord → List Standing
placed place [] = []
placed place (r ∷ rs) = record { place = place; item = r } ∷ placed (place + length (record_octets r)) rs

-- the place of the record that comes next, where a journal has these
abbrev pub journal_end : List JournalRecord → ℕ
journal_end rs = first_gate + length (flat_map record_octets rs)

abbrev pub edge_at : World → ℕ → ℕ
edge_at w place = option_map_or journal_end (records_at w place) 0

-- a word is of a registration that a record names, which stands at the place that the word's number has
abbrev pub IsNamedBy : Outward → Standing → Type 0
IsNamedBy o s = (s.place ≡ o.number.generation)
    × Any (λ (r : Named). (r.index ≡ o.number.serial) × (r.reference ≡ o.to)) (registrations_of s.item)

-- the word that is out asks a participant, to prepare or to commit alone
abbrev pub is_asking_round : Round → Bool
is_asking_round rounds.Asking = true
is_asking_round rounds.Telling = false
is_asking_round rounds.Forgetting = false

abbrev pub is_asking_errand : Option Errand → Bool
is_asking_errand (Some e) = is_asking_round e.stage
is_asking_errand None = false

abbrev pub is_asking : Completion → Bool
is_asking (Waiting room) = false
is_asking (UnderWay c) = is_asking_errand c.out

-- the word for which a completion waits: one by which it asks a participant, or one by which it tells one with this number the outcome
pub data Awaited : Type 0 where
  AsksOne : (notice : Notice) → Awaited
  TellsOne : (registration : ℕ) (to : List ℕ) → Awaited

abbrev pub notice_at : Course → Errand → Option Awaited
notice_at c e = elim e.stage [
  | rounds.Asking ↦ option_map (λ (p : Party). AsksOne (record { word = first_word (decides_alone c); registration = p.index; to = p.to })) (slice_get c.parties e.place)
  | rounds.Telling ↦ option_map (λ (p : Party). TellsOne p.index p.to) (slice_get c.parties e.place)
  | rounds.Forgetting ↦ None
]

abbrev pub notice_out : Completion → Option Awaited
notice_out (Waiting room) = None
notice_out (UnderWay c) = option_and_then (notice_at c) c.out

-- the outcome is told by one of these
abbrev pub IsOutcomeWord : Word → Type 0
IsOutcomeWord (words.Phase phase_words.Commit) = Unit {0}
IsOutcomeWord (words.Phase phase_words.Rollback) = Unit {0}
IsOutcomeWord _ = ⊥

abbrev pub IsAwaited : Awaited → Outward → Type 0
IsAwaited (AsksOne notice) o = notice ≡ notice_of o
IsAwaited (TellsOne registration to) o = (registration ≡ o.registration) × (to ≡ o.to) × IsOutcomeWord o.word

-- the serial number of the word that a call at the decision has out
abbrev pub out_at : Leg → Option ℕ → Option ℕ
out_at Below out = None
out_at Own out = None
out_at (Before so_many) out = None
out_at Deciding out = out
out_at (After so_many) out = None

abbrev pub decides_out : Option Call → Option ℕ
decides_out (Some c) = out_at c.leg c.out
decides_out None = None

-- A word of a family has a number that the family has given. Where the call at the decision waits for it while a participant is asked,
-- or told the outcome, it is the word that went to that one.
pub record IsNumberedBy (f : Family) (o : Outward) : Type 0 where
  pub within : o.number.serial ≤ f.serial
  pub out : (a : Awaited) → decides_out (call_at f 0) ≡ Some o.number.serial → notice_out f.completion ≡ Some a → IsAwaited a o

pub record WordsAreTold (w : World) (h : List Line) : Type 0 where
  pub named : WordsAreNamed w
  pub once : NumbersAreOnce w
  pub told : (nth place : ℕ) (o : Outward) (phase : Phase) (r : NamedKey) → IsWord w nth place o → phase_of o.word ≡ Some phase
      → referred w o.to ≡ Some r → Stands (lines.Send (nth + 1) phase r.name) h
  pub sent : (number : ℕ) (phase : Phase) (name : List ℕ) → Stands (lines.Send number phase name) h
      → (nth place : ℕ) × (o : Outward) × (r : NamedKey) × IsWord w nth place o × (number ≡ nth + 1) × (phase_of o.word ≡ Some phase)
      × (referred w o.to ≡ Some r) × (r.name ≡ name)
  -- a reply comes behind the message that it answers
  pub replied : (reply request : ℕ) (m : Message) (answer : Said) → slice_get w.messages reply ≡ Some m
      → m.content ≡ contents.Reply request answer → request ≤ reply
  -- and that is a word
  pub asked : (reply request : ℕ) (m : Message) (answer : Said) → slice_get w.messages reply ≡ Some m
      → m.content ≡ contents.Reply request answer → (nth from : ℕ) × (o : Outward) × IsWord w nth from o × (request ≡ nth + 1)
  -- a vote answers prepare
  pub voters : (reply nth place : ℕ) (m : Message) (vote : Vote) (o : Outward) → slice_get w.messages reply ≡ Some m
      → m.content ≡ contents.Reply (nth + 1) (said.Voted vote) → IsWord w nth place o
      → o.word ≡ words.Phase phase_words.Prepare
  -- no number is of a later life; those of this life were given
  pub lives : (place : ℕ) (o : Outward) (rs : List JournalRecord) → HasSent w place o → records_at w place ≡ Some rs
      → o.number.life ≤ (found_in rs).life
  pub given : (place : ℕ) (s : Seat) (n : Node) (o : Outward) → slice_get w.seats place ≡ Some s → s.server ≡ OfNode (Some n)
      → HasSent w place o → o.number.life ≡ life n → (o.number.slot ≡ retold_slot) ⊎ (o.number.generation ≤ n.generation)
  -- a word that was told again is of a record, for good
  pub told_again : (place : ℕ) (o : Outward) (rs : List JournalRecord) → HasSent w place o → o.number.slot ≡ retold_slot
      → records_at w place ≡ Some rs → Any (IsNamedBy o) (placed first_gate rs)
  -- a family that is there has numbered its words so far
  pub serials : (place : ℕ) (o : Outward) (f : Family) (key : ObjectKey) → HasSent w place o → family_at w key ≡ Some f
      → o.number.life ≡ f.key.life → o.number.slot ≡ f.key.slot → o.number.generation ≡ f.key.generation → place_of f.key ≡ place
      → IsNumberedBy f o

-- ---- resources

-- the resource of this name has answered this vote
abbrev pub HasAnswered : World → List ℕ → Vote → Type 0
HasAnswered w name vote = (nth from reply : ℕ) × (o : Outward) × (r : NamedKey) × (m : Message) × IsWord w nth from o × (o.word ≡ words.Phase phase_words.Prepare)
    × (referred w o.to ≡ Some r) × (r.name ≡ name) × (slice_get w.messages reply ≡ Some m) × (m.content ≡ contents.Reply (nth + 1) (said.Voted vote))

-- how it stands by the vote that it gave, and by what it was told
abbrev pub HasVotedCommit : State → List ℕ → List Line → Type 0
HasVotedCommit states.Prepared name h = Unit {0}
HasVotedCommit states.Applied name h = IsToldCommit name h
HasVotedCommit states.Undone name h = IsToldRollback name h
HasVotedCommit _ name h = ⊥

abbrev pub HasNotVoted : State → List ℕ → List Line → Type 0
HasNotVoted states.Fresh name h = Unit {0}
HasNotVoted states.Working name h = Unit {0}
HasNotVoted states.Refused name h = Unit {0}
HasNotVoted states.Applied name h = IsSent phase_words.CommitOnePhase name h
HasNotVoted states.Undone name h = IsToldRollback name h ⊎ IsSent phase_words.CommitOnePhase name h
HasNotVoted states.Forgotten name h = IsSent phase_words.CommitOnePhase name h
HasNotVoted _ name h = ⊥

pub record ResourceIsKnown (w : World) (h : List Line) (name : List ℕ) (r : FlatResource) : Type 0 where
  pub commit : HasAnswered w name VoteCommit → HasVotedCommit r.state name h
  pub read_only : HasAnswered w name VoteReadOnly → r.state ≡ states.Forgotten
  pub rollback : HasAnswered w name VoteRollback → r.state ≡ states.Undone
  pub none : ((vote : Vote) → HasAnswered w name vote → ⊥) → HasNotVoted r.state name h
  pub applied : Stands (lines.State name shown.Applied) h ↔ (r.state ≡ states.Applied)
  pub undone : Stands (lines.State name shown.Undone) h ↔ (r.state ≡ states.Undone)
  -- whatever it voted
  pub follows : StatesFollow r.state name h

abbrev pub ResourcesAreKnown : World → List Line → Type 0
ResourcesAreKnown w h = (name : List ℕ) (key : ObjectKey) (r : FlatResource) → thing w name ≡ Some (things.Resource key)
    → resource_at w key ≡ Some r → ResourceIsKnown w h name r

-- ---- families that are there

abbrev pub ended_state : Bool → BranchState
ended_state true = rows.Committed
ended_state false = rows.RolledBack

-- the name is that of a branch of the family
abbrev pub IsBranch : World → Family → List ℕ → ℕ → Type 0
IsBranch w f t b = (key : ObjectKey) × IsTransaction w t key × IsTrue (is_of key f) × (key.index ≡ b)

-- a resource of this name is in some list of the family, registered with this branch
abbrev pub IsListed : World → Family → List ℕ → ℕ → Type 0
IsListed w f name b = (c : ℕ) × (r : Registration) × (object : NamedKey) × Contains (participants c f.ballots) r × (r.branch ≡ b)
    × (referred w r.to ≡ Some object) × (object.name ≡ name)

-- its outcome is told, or isn't fixed
abbrev pub OutcomeIsTold : Option Outcome → List ℕ → List Line → Type 0
OutcomeIsTold (Some (outcomes.Commit basis)) name h = Stands (lines.Decide name (outcomes.Commit basis)) h
OutcomeIsTold _ name h = Stands (lines.Decide name (outcomes.Commit Record)) h → ⊥

-- a message has the number of this key; it was sent while a script went on
abbrev pub HasMessage : World → RetryKey → Type 0
HasMessage w key = (nth : ℕ) × (m : Message) × (slice_get w.messages nth ≡ Some m) × (key.number ≡ nth + 1) × (nth ≤ message_limit)
    × (key.client ≡ script_client)

-- it calls no synchronization before a commit
abbrev pub IsNotBefore : Leg → Type 0
IsNotBefore Below = Unit {0}
IsNotBefore Own = Unit {0}
IsNotBefore (Before so_many) = ⊥
IsNotBefore Deciding = Unit {0}
IsNotBefore (After so_many) = Unit {0}

-- a call at the decision, or before it, has nothing left to tell
abbrev pub IsBare : Leg → List Duty → Type 0
IsBare Below left = Unit {0}
IsBare Own left = Unit {0}
IsBare (Before so_many) left = left ≡ []
IsBare Deciding left = left ≡ []
IsBare (After so_many) left = Unit {0}

abbrev pub IsWithin : ℕ → Option ℕ → Type 0
IsWithin serial (Some out) = out ≤ serial
IsWithin serial None = Unit {0}

-- how many are listed, in all lists together
abbrev pub listed_in : List (List ℕ) → ℕ
listed_in [] = 0
listed_in (xs ∷ lists) = length xs + listed_in lists

-- no more are listed than are registered, and these are as few as a decision record can name
pub record AreFew (some : Ballots) : Type 0 where
  pub listed : listed_in some.lists ≤ length some.registrations
  pub registered : length some.registrations ≤ registration_limit

-- so is each of these calls, and its word that is out has a number that was given
abbrev pub AreReady : ℕ → List (Option Call) → Type 0
AreReady serial calls = (b : ℕ) (c : Call) → called calls b ≡ Some c → IsBare c.leg c.left × IsWithin serial c.out

pub record FamilyIsKnown (w : World) (h : List Line) (f : Family) : Type 0 where
  pub sound : IsSoundFamily f
  pub name : List ℕ
  pub of_name : IsTransaction w name f.key
  pub top : f.key.index ≡ 0
  pub branches : (b : ℕ) → b < length f.rows → (t : List ℕ) × IsBranch w f t b
  pub no_further : (t : List ℕ) (b : ℕ) → IsBranch w f t b → b < length f.rows
  pub parents : (t above : List ℕ) (b p : ℕ) → IsBranch w f t b → IsBranch w f above p → Stands (lines.Sub t above) h ↔ (parent f.rows b ≡ Some p)
  pub ends : (t : List ℕ) (b : ℕ) (committed : Bool) → IsBranch w f t b → 0 < b
      → Stands (lines.SubDone t committed) h ↔ (state f.rows b ≡ Some (ended_state committed))
  pub registrations : (g t : List ℕ) (b : ℕ) → IsBranch w f t b → IsRegistered g t h ↔ IsListed w f g b
  -- what is registered of it, by a line, is so with the branch that it has here
  pub own : (r : Registration) (object : NamedKey) (t : List ℕ) → Contains f.ballots.registrations r → referred w r.to ≡ Some object
      → IsRegistered object.name t h → IsBranch w f t r.branch
  -- registrations are numbered from 1, and no synchronization is registered
  pub numbered : (i : ℕ) (r : Registration) → slice_get f.ballots.registrations i ≡ Some r → r.index ≡ i + 1
  pub unsynchronized : f.ballots.synchronizations ≡ []
  -- each is of an object that has a name, and of another one than the others
  pub named : (r : Registration) → Contains f.ballots.registrations r → IsTrue (is_some (referred w r.to))
  pub apart : (r s : Registration) → Contains f.ballots.registrations r → Contains f.ballots.registrations s → r.to ≡ s.to → r ≡ s
  -- registered with a branch that there is
  pub within : (r : Registration) → Contains f.ballots.registrations r → r.branch < length f.rows
  -- its history is of calls whose messages were sent
  pub came : (e : Entry) (r : RetryKey) → Contains f.entries e → e.event.key ≡ Some r → HasMessage w r
  -- what a call is still to tell goes to one of those
  pub dues : (b : ℕ) (c : Call) → call_at f b ≡ Some c → AllByRecursion (λ (d : Duty). Contains f.ballots.registrations d.resource) c.left
  -- no call is at a synchronization
  pub legs : (b : ℕ) (c : Call) → call_at f b ≡ Some c → IsNotBefore c.leg
  pub ready : AreReady f.serial f.calls
  -- a decision record has room for all that take part
  pub few : AreFew f.ballots
  pub votes : (g : ℕ) (vote : Vote) (r : Registration) (object : NamedKey) → Contains f.ballots.registrations r → r.index ≡ g
      → referred w r.to ≡ Some object → IsVoted f.completion g vote ↔ Stands (lines.Voted object.name vote) h
  -- between its steps it wants no decision of the journal
  pub settled : stages.wants_decision f.completion ≡ false
  pub outcome : OutcomeIsTold (stages.outcome f.completion) name h
  pub recorded : IsTrue (has_record w (place_of f.key) (is_decision_of f.key))
      ↔ (stages.outcome f.completion ≡ Some (outcomes.Commit Record))

abbrev pub FamiliesAreKnown : World → List Line → Type 0
FamiliesAreKnown w h = (key : ObjectKey) (f : Family) → family_at w key ≡ Some f → FamilyIsKnown w h f

-- what was told to a participant of a family that is there
pub record ToldIsOpen (w : World) (h : List Line) : Type 0 where
  pub commit : (g t : List ℕ) (b : ℕ) (key : ObjectKey) (f : Family) → IsSent phase_words.Commit g h → IsRegistered g t h
      → family_at w key ≡ Some f → IsBranch w f t b → stages.outcome f.completion ≡ Some (outcomes.Commit Record)
  pub one_phase : (g t : List ℕ) (b : ℕ) (key : ObjectKey) (f : Family) → IsSent phase_words.CommitOnePhase g h → IsRegistered g t h
      → family_at w key ≡ Some f → IsBranch w f t b → IsAsking f.completion × (stages.decides_alone f.completion ≡ true)

-- ---- what was rolled back

-- a family that is there and was rolled back, by a line, has that outcome
abbrev pub IsBack : Option Outcome → Type 0
IsBack (Some (outcomes.Rollback reason)) = Unit {0}
IsBack _ = ⊥

abbrev pub RollbacksAreOutcomes : World → List Told → Type 0
RollbacksAreOutcomes w told = (name : List ℕ) (key : ObjectKey) (f : Family) → IsTransaction w name key → key.index ≡ 0
    → family_at w key ≡ Some f → IsRolledBack told name → IsBack (stages.outcome f.completion)

-- and where that is its outcome, a line tells it
abbrev pub RollbacksAreTold : World → List Told → Type 0
RollbacksAreTold w told = (name : List ℕ) (key : ObjectKey) (f : Family) → family_at w key ≡ Some f → IsTransaction w name f.key
    → IsBack (stages.outcome f.completion) → IsRolledBack told name

-- ---- transactions that were made, nodes that are up, and what ends have made

-- it is the name of a transaction
abbrev pub IsNamed : World → List ℕ → Type 0
IsNamed w name = (key : ObjectKey) × IsTransaction w name key

pub record TransactionsAreKnown (w : World) (told : List Told) : Type 0 where
  -- the node of a transaction was made, and is in its life or a later one
  pub seated : (name : List ℕ) (key : ObjectKey) → IsTransaction w name key → IsTrue (is_some (slice_get w.seats (place_of key)))
  pub lives : (name : List ℕ) (key : ObjectKey) (rs : List JournalRecord) → IsTransaction w name key → records_at w (place_of key) ≡ Some rs
      → key.life ≤ (found_in rs).life
  -- nothing else is told to have an outcome
  pub decided : (name : List ℕ) (outcome : LineOutcome) → Stands (lines.Decide name outcome) (known told) → IsNamed w name
  pub rolled_back : (name : List ℕ) → IsRolledBack told name → IsNamed w name

-- A record that a node tells again is one of its disk, to all whom that names, under their numbers; and its decision is told.
pub record IsHeldAs (w : World) (told : List Told) (place : ℕ) (rs : List JournalRecord) (held : Held) : Type 0 where
  pub stood : Standing
  pub there : Contains (placed first_gate rs) stood
  pub same_place : stood.place ≡ held.place
  pub numbers : map (λ (p : HeldParty). p.index) held.parties ≡ map (λ (r : Named). r.index) (registrations_of stood.item)
  pub references : map (λ (p : HeldParty). p.to) held.parties ≡ map (λ (r : Named). r.reference) (registrations_of stood.item)
  pub line : (life slot generation : ℕ) (by : Option RetryKey) (asked : Bool) (regs : List Named)
      → stood.item ≡ Decision life slot generation by asked regs
      → (name : List ℕ) × IsTransaction w name (recorded_key place life slot generation)
      × Stands (lines.Decide name (outcomes.Commit Record)) (known told)

pub record NodeIsKnown (w : World) (told : List Told) (place : ℕ) (n : Node) : Type 0 where
  -- it keeps its decisions, before the end of its journal
  pub sound : KeepsDecisions (edge_at w place) n
  -- the transactions of this life were given numbers
  pub given : (name : List ℕ) (key : ObjectKey) → IsTransaction w name key → place_of key ≡ place → key.life ≡ life n → key.generation ≤ n.generation
  -- its disk is in order
  pub order : (s : Seat) (rs : List JournalRecord) → slice_get w.seats place ≡ Some s → records_at w place ≡ Some rs
      → IsInOrder (service_at place) s.disk rs
  pub held : (rs : List JournalRecord) (held : Held) → records_at w place ≡ Some rs → Contains n.recovered held → IsHeldAs w told place rs held

abbrev pub NodesAreKnown : World → List Told → Type 0
NodesAreKnown w told = (place : ℕ) (n : Node) → node_at w place ≡ Some n → NodeIsKnown w told place n

-- an end has counted its objects, for each of which a message was sent; and it has no long name
pub record EndsHaveCounted (w : World) : Type 0 where
  pub numbers : (place : ℕ) (e : FlatEnd) → end_at w place ≡ Some e → AllByRecursion (λ (r : FlatResource). r.key.generation ≤ e.drawn) e.resources
  pub messages : (place : ℕ) (e : FlatEnd) → end_at w place ≡ Some e → e.drawn ≤ length w.messages
  pub short : (place : ℕ) (e : FlatEnd) (name : List ℕ) → end_at w place ≡ Some e → seat_name w place ≡ Some name → length name ≤ name_limit

-- ---- what is known together

pub record Known (w : World) (told : List Told) : Type 0 where
  pub names : NamesAreTold w (reverse (known told))
  pub seats : SeatsAreNamed w (reverse (known told))
  pub disks : DisksAreKnown w told
  pub words : WordsAreTold w (reverse (known told))
  pub votes : VotesWereGiven w told
  pub resources : ResourcesAreKnown w (reverse (known told))
  pub families : FamiliesAreKnown w (reverse (known told))
  pub open_words : ToldIsOpen w (reverse (known told))
  pub records : RecordsRestOnVotes w told
  pub recorded : DecisionsAreRecorded w told
  pub ends : SubtransactionsEndOnce told
  pub one_outcome : NoneIsBoth w told
  pub commits : CommitsAreRecorded w
  pub one_phase : OnePhaseIsAlone w told
  pub rollbacks : RollbacksAreClosed w told
  pub rolled_back : RollbacksAreOutcomes w told
  pub told_back : RollbacksAreTold w told
  pub transactions : TransactionsAreKnown w told
  pub nodes : NodesAreKnown w told
  pub counted : EndsHaveCounted w
  pub allowed : AreAllowed (reverse (known told))
