-- What holds of a node that is up: its journal has what its disk holds, and what is told again stands (our profile).
use Rattle.std.specs.Prelude.{◌≡◌, ℕ, List, drop, length, unwrap_or, Option, Some, None, false, Contains}
use Rattle.ots_outside.specs.Disk.{DiskState}
use Rattle.ots_outside.specs.MemDisk.{MemDiskState}
use Rattle.decision_journal.specs.Journal.{Found}
use Rattle.decision_journal.specs.Limits.{area_limit}
use Rattle.recovery_coord.specs.declared.held.Held.{Held}
use Rattle.family_laws.specs.HeldRecords.{IsOfStanding}
use Rattle.family_laws.specs.OwnDecisions.{KeepsDecisions}
use Rattle.service_node.specs.NodeState.{NodeState}
use Rattle.nodes_parts.specs.Gated.{gate_behind}
use Rattle.nodes_parts.specs.Striking.{closed_over}

-- a disk in memory tells its state
abbrev pub told : MemDiskState → Option DiskState
told d = Some d.disk

-- what is told again stands, and is told to all whom the record names
abbrev pub AreStanding : Found → List Held → Type 0
AreStanding found held = (h : Held) → Contains held h → IsOfStanding found.standing h

-- the gate behind the record of this one, or this one where it is not open
abbrev pub end_from : List ℕ → ℕ → ℕ
end_from octets gate = unwrap_or (gate_behind gate (drop gate octets)) gate

-- The place of the gate at its end is known. Behind that gate its disk reads what stood there once it was loaded.
pub record IsRunning (s : NodeState MemDiskState) (loaded : List ℕ) (end : ℕ) : Type 0 where
  pub service : s.node.service ≡ s.journal.service
  pub found : s.node.found ≡ s.journal.found
  pub area : s.journal.area ≡ area_limit
  pub failed : s.journal.failed ≡ false
  pub sure : s.journal.doubted ≡ None
  pub reads : s.journal.disk.disk.reads ≡ closed_over s.journal.octets loaded
  pub ends : end ≡ length s.journal.octets
  pub keeps : KeepsDecisions (length s.journal.octets) s.node
  pub standing : AreStanding s.node.found s.node.recovered
