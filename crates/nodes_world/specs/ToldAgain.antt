-- A decision is told again after a restart: at each tick commit goes out to all whom it names, but to those that have answered
-- (Transaction Service, interface RecoveryCoordinator, and the operation commit of interface Resource; that a tick tells again is
-- our profile).
use Rattle.std.specs.Prelude.{◌≡◌, ◌⊎◌, ℕ, ◌+◌, ◌<◌, ◌≤◌, Bool, List, ◌++◌, length, slice_get, Option, Some, Contains}
use Rattle.ots_model.specs.Safe.{Stands}
use Rattle.ots_model.specs.declared.completion.Word.TheVariants as phase_words
use Rattle.ots_model.specs.declared.line.Line.TheVariants as lines
use Rattle.ots_model.specs.declared.service.RetryKey.{RetryKey}
use Rattle.ots_model.specs.declared.tree.Outward.{Outward}
use Rattle.ots_model.specs.declared.tree.Word.TheVariants as words
use Rattle.ots_world.specs.declared.script.ScriptEvent.{ScriptEvent}
use Rattle.decision_journal.specs.Journal.{found_in}
use Rattle.decision_journal.specs.declared.journal.Standing.{Standing}
use Rattle.decision_journal.specs.declared.record.JournalRecord.{JournalRecord}
use Rattle.decision_journal.specs.declared.record.JournalRecord.TheVariants.{Decision}
use Rattle.decision_journal.specs.declared.record.Registration.{Registration}
use Rattle.recovery_coord.specs.Telling.{number_of}
use Rattle.recovery_coord.specs.declared.held.Due.TheVariants as due
use Rattle.recovery_coord.specs.declared.held.Held.{Held}
use Rattle.recovery_coord.specs.declared.held.Party.{Party}
use Rattle.coordinator.specs.Node.{Node, life}
use Rattle.coordinator.specs.declared.said.Said.{Said}
use Rattle.nodes_world.specs.declared.deed.Deed.TheVariants as deeds
use Rattle.nodes_world.specs.declared.message.Content.TheVariants as contents
use Rattle.nodes_world.specs.declared.message.Message.{Message}
use Rattle.nodes_world.specs.Agreement.{GoesOnFrom, IsWord, Reaches, records_at}
use Rattle.nodes_world.specs.Happenings.{Done}
use Rattle.nodes_world.specs.Resolve.{resolve}
use Rattle.nodes_world.specs.StandingDecisions.{AreToldDecided}
use Rattle.nodes_world.specs.Step.{carried_out}
use Rattle.nodes_world.specs.Told.{Told, known}
use Rattle.nodes_world.specs.World.{World, NamedKey, node_at, referred}

-- what was sent so-many-th is the reply to the word that was sent so-many-th
abbrev pub IsReplyTo : World → ℕ → ℕ → Said → Type 0
IsReplyTo w nth word answer = (m : Message) × (slice_get w.messages nth ≡ Some m) × (m.content ≡ contents.Reply (word + 1) answer)

-- the object of a reference has replied to a commit word
pub record HasAnsweredCommit (w : World) (to : List ℕ) : Type 0 where
  pub nth : ℕ
  pub place : ℕ
  pub reply : ℕ
  pub word : Outward
  pub answer : Said
  pub sent : IsWord w nth place word
  pub own : word.to ≡ to
  pub commit : word.word ≡ words.Phase phase_words.Commit
  pub replied : IsReplyTo w reply nth answer

-- each registration that a node holds of a record waits for its commit word, or has answered one
abbrev pub HeldWaitOrAnswered : Type 0
HeldWaitOrAnswered = (w : World) (told : List Told) (place : ℕ) (n : Node) (h : Held) (p : Party) → Reaches w told → node_at w place ≡ Some n
    → Contains n.recovered h → Contains h.parties p → (p.due ≡ due.Commit) ⊎ HasAnsweredCommit w p.to

-- a decision of an earlier life stands in the journal of a node, and names a registration
pub record Owes (n : Node) (stood : Standing) (r : Registration) : Type 0 where
  pub of_life : ℕ
  pub slot : ℕ
  pub generation : ℕ
  pub by : Option RetryKey
  pub asked : Bool
  pub named : List Registration
  pub stands : Contains n.found.standing stood
  pub decision : stood.item ≡ Decision of_life slot generation by asked named
  pub earlier : of_life < life n
  pub names : Contains named r

-- A restart brings the node up. Behind it each decision that stands on the disk is owed to all whom it names; lines tell it again.
pub record ComesUpOwing (w : World) (place : ℕ) (d : Done) : Type 0 where
  pub records : List JournalRecord
  pub held : records_at w place ≡ Some records
  pub node : Node
  pub up : node_at d.world place ≡ Some node
  pub owes : (stood : Standing) (of_life slot generation : ℕ) (by : Option RetryKey) (asked : Bool) (named : List Registration) (r : Registration)
      → Contains (found_in records).standing stood → stood.item ≡ Decision of_life slot generation by asked named → Contains named r
      → Owes node stood r
  pub told : AreToldDecided w d.lines place (found_in records).standing

-- The node at a place sends commit to a registration of its record, behind all messages of before: under the number that the record
-- and the registration have in its life, with the record as its receipt. A line tells it.
pub record TellsCommit (w : World) (told : List Told) (place : ℕ) (n : Node) (stood : Standing) (r : Registration) (d : Done) : Type 0 where
  pub nth : ℕ
  pub new : length w.messages ≤ nth
  pub word : Outward
  pub sent : IsWord d.world nth place word
  pub commit : word.word ≡ words.Phase phase_words.Commit
  pub to : word.to ≡ r.reference
  pub number : word.number ≡ number_of (life n) stood.place r.index
  pub receipt : word.receipt ≡ Some (record { place = stood.place; registration = r.index })
  pub resource : NamedKey
  pub object : referred d.world r.reference ≡ Some resource
  pub line : Stands (lines.Send (nth + 1) phase_words.Commit resource.name) (known (told ++ d.lines))

-- what is told again in a world, where these lines were told before
pub record TellsAgain (w : World) (told : List Told) : Type 0 where
  -- a restart owes each decision that stands
  pub restarts : (event : ScriptEvent) (place : ℕ) → resolve event w ≡ Some (deeds.Restart place)
      → ComesUpOwing w place (carried_out (deeds.Restart place) w)
  -- and each tick tells what is owed, but to those that have answered
  pub ticks : (event : ScriptEvent) (place seconds : ℕ) (n : Node) (stood : Standing) (r : Registration)
      → resolve event w ≡ Some (deeds.Tick place seconds) → node_at w place ≡ Some n → Owes n stood r
      → HasAnsweredCommit w r.reference ⊎ TellsCommit w told place n stood r (carried_out (deeds.Tick place seconds) w)

-- so it is in each world that a script reaches, and can go on from
abbrev pub ReachedTellAgain : Type 0
ReachedTellAgain = (w : World) (told : List Told) → Reaches w told → GoesOnFrom w → TellsAgain w told
