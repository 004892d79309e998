-- What a crash leaves of a node, at any moment of a call: what a load of the octets makes afterwards (our profile).
use Rattle.std.specs.Prelude.{◌≡◌, ◌⊎◌, ℕ, ◌+◌, List, Option}
use Rattle.ots_outside.specs.Disk.{DiskState, LeavesOnlySince, Tells}
use Rattle.decision_journal.specs.Journal.{Found, StandsFor}
use Rattle.decision_journal.specs.State.{IsKept, JournalState, MayHave, StaysWithinArea}
use Rattle.decision_journal.specs.declared.record.JournalRecord.{JournalRecord}
use Rattle.coordinator.specs.Node.{Node, load, loaded_node}
use Rattle.service_node.specs.NodeState.{NodeState}

-- the node in its next life, where a load finds this
abbrev pub restarted : ℕ → Found → Node
restarted service found = loaded_node service (record found { life = found.life + 1 })

-- octets stand for records, and a load of them makes this node
pub record Gives (service : ℕ) (octets : List ℕ) (n : Node) : Type 0 where
  pub records : List JournalRecord
  pub stand : StandsFor service octets records
  pub node : n ≡ load service records

-- what a journal knows would make this node, if it were loaded; where a record is in doubt, with it or without it
pub record MayBecome {D : Type 0} (journal : JournalState D) (n : Node) : Type 0 where
  pub octets : List ℕ
  pub found : Found
  pub known : MayHave journal octets found
  pub node : n ≡ restarted journal.service found

-- a load of these octets makes what it might have made before a call, or what it might make behind it
abbrev pub IsBeforeOrAfter : {D : Type 0} → JournalState D → JournalState D → List ℕ → Type 0
IsBeforeOrAfter before after octets = (n : Node) × (Gives before.service octets n × (MayBecome before n ⊎ MayBecome after n))

-- a crash at any moment from the start of a call to its end leaves such octets
abbrev pub IsCrashSafe : {D : Type 0} → (D → Option DiskState) → NodeState D → NodeState D → Type 0
IsCrashSafe told before after =
    Tells (told before.journal.disk) (told after.journal.disk) (LeavesOnlySince (IsBeforeOrAfter before.journal after.journal))

-- what a disk holds of its journal is known
pub record IsKnown {D : Type 0} (told : D → Option DiskState) (journal : JournalState D) : Type 0 where
  pub kept : IsKept journal.failed journal.octets journal.doubted (told journal.disk)
  pub each : StaysWithinArea journal
