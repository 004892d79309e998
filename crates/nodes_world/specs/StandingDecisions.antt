-- Decisions outlive crashes: each one that stands on the disk of a node is told, and a restart tells it again (Transaction Service,
-- interface RecoveryCoordinator: an outcome survives its coordinator; how it is told is our profile).
use Rattle.std.specs.Prelude.{◌≡◌, ℕ, Bool, List, Option, Some, Contains}
use Rattle.ior_refs.specs.declared.key.ObjectKey.{ObjectKey}
use Rattle.ots_model.specs.Safe.{Stands}
use Rattle.ots_model.specs.declared.completion.Ground.TheVariants.{Record}
use Rattle.ots_model.specs.declared.completion.Outcome.TheVariants as outcomes
use Rattle.ots_model.specs.declared.line.Line.TheVariants as lines
use Rattle.ots_model.specs.declared.service.RetryKey.{RetryKey}
use Rattle.ots_world.specs.declared.script.ScriptEvent.{ScriptEvent}
use Rattle.decision_journal.specs.Journal.{found_in}
use Rattle.decision_journal.specs.declared.journal.Standing.{Standing}
use Rattle.decision_journal.specs.declared.record.JournalRecord.{JournalRecord}
use Rattle.decision_journal.specs.declared.record.JournalRecord.TheVariants.{Decision}
use Rattle.decision_journal.specs.declared.record.Registration.{Registration}
use Rattle.coordinator.specs.Node.{Node}
use Rattle.nodes_world.specs.declared.deed.Deed.TheVariants as deeds
use Rattle.nodes_world.specs.Agreement.{DecisionsAreRecorded, IsTransaction, Reaches, recorded_key, records_at}
use Rattle.nodes_world.specs.Resolve.{resolve}
use Rattle.nodes_world.specs.Step.{carried_out}
use Rattle.nodes_world.specs.Told.{Told, known}
use Rattle.nodes_world.specs.World.{World, node_at}

-- these lines tell that the transaction of a key is decided
pub record IsToldDecided (w : World) (told : List Told) (key : ObjectKey) : Type 0 where
  pub name : List ℕ
  pub of_name : IsTransaction w name key
  pub line : Stands (lines.Decide name (outcomes.Commit Record)) (known told)

-- they tell it of each decision that stands at the place of a node
abbrev pub AreToldDecided : World → List Told → ℕ → List Standing → Type 0
AreToldDecided w told place standing = (stood : Standing) (life slot generation : ℕ) (by : Option RetryKey) (asked : Bool) (regs : List Registration)
    → Contains standing stood → stood.item ≡ Decision life slot generation by asked regs
    → IsToldDecided w told (recorded_key place life slot generation)

-- where a node is up, each decision that stands was told
abbrev pub StandingIsTold : Type 0
StandingIsTold = (w : World) (told : List Told) (place : ℕ) (n : Node) → Reaches w told → node_at w place ≡ Some n
    → AreToldDecided w told place n.found.standing

-- a restart tells each one again that stands on the disk
abbrev pub RestartsTellAgain : Type 0
RestartsTellAgain = (w : World) (told : List Told) (event : ScriptEvent) (place : ℕ) (rs : List JournalRecord) → Reaches w told
    → resolve event w ≡ Some (deeds.Restart place) → records_at w place ≡ Some rs
    → AreToldDecided w (carried_out (deeds.Restart place) w).lines place (found_in rs).standing

-- and no decision is told but one whose record the disk of its node holds
abbrev pub ToldIsRecorded : Type 0
ToldIsRecorded = (w : World) (told : List Told) → Reaches w told → DecisionsAreRecorded w told
