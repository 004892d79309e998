-- Why a node was not loaded, and what that makes of its disk (our profile).
use Rattle.std.specs.Prelude.{◌≡◌, ◌⊎◌, ℕ, Bool, true, Option}
use Rattle.ots_outside.specs.Asked.{DiskCall}
use Rattle.ots_outside.specs.Disk.{DiskState}
use Rattle.decision_journal.specs.Asking.{AsksLoad, AsksLoadSome}
use Rattle.decision_journal.specs.Faults as journal_faults
use Rattle.decision_journal.specs.Loading.{IsLoadFault, LoadIsDone}
use Rattle.decision_journal.specs.Loading as loading
use Rattle.decision_journal.specs.declared.journal.JournalFault.{JournalFault}
use Rattle.decision_journal.specs.declared.journal.JournalFault.TheVariants.{DiskFault, Full, BadHeader, BadRecord, LivesSpent, Memory}
use Rattle.coordinator.specs.declared.node.NodeFault.{NodeFault}
use Rattle.coordinator.specs.declared.node.NodeFault.TheVariants as faults

-- what a fault of the journal is to a load of its node
abbrev pub load_fault : JournalFault → NodeFault
load_fault Memory = faults.Memory
load_fault DiskFault = faults.Journal DiskFault
load_fault (Full used need) = faults.Journal (Full used need)
load_fault (BadHeader place) = faults.Journal (BadHeader place)
load_fault (BadRecord place) = faults.Journal (BadRecord place)
load_fault LivesSpent = faults.Journal LivesSpent

-- the journal was refused for that cause, or memory was wanted
abbrev pub IsLoadCause : ℕ → ℕ → Option DiskState → ℕ → ℕ → NodeFault → Type 0
IsLoadCause area service told before after faults.ObjectNotExist = ⊥
IsLoadCause area service told before after faults.NoResources = ⊥
IsLoadCause area service told before after faults.NoImplement = ⊥
IsLoadCause area service told before after (faults.Journal fault) = IsLoadFault area service told before after fault
IsLoadCause area service told before after faults.Memory = Unit {0}

-- what a refused load makes of its disk: what a refused load of its journal does, or, where memory was wanted behind that load,
-- what one that is done does
abbrev pub IsRefusedLoad : ℕ → NodeFault → DiskState → DiskState → Type 0
IsRefusedLoad service faults.ObjectNotExist before after = ⊥
IsRefusedLoad service faults.NoResources before after = ⊥
IsRefusedLoad service faults.NoImplement before after = ⊥
IsRefusedLoad service (faults.Journal fault) before after = loading.IsRefusedLoad service fault before after
IsRefusedLoad service faults.Memory before after = loading.IsRefusedLoad service Memory before after ⊎ LoadIsDone service before after

-- a refusal for another cause than the disk left this count of faults
abbrev pub IsNoFault : NodeFault → ℕ → ℕ → Type 0
IsNoFault faults.ObjectNotExist before after = ⊥
IsNoFault faults.NoResources before after = ⊥
IsNoFault faults.NoImplement before after = ⊥
IsNoFault (faults.Journal fault) before after = journal_faults.IsNoFault fault before after
IsNoFault faults.Memory before after = after ≡ before

-- which calls a refused load asked of its disk: where the disk tells its state, the first of those of its journal's load, or, where
-- memory was wanted behind that load, all of them
abbrev pub AsksRefusedLoad : {D : Type 0} → (D → DiskCall → Bool → D → Type 0) → (D → Option DiskState) → ℕ → NodeFault → D → D → Type 0
AsksRefusedLoad asked told service faults.Memory before after =
    AsksLoadSome asked told service before after ⊎ AsksLoad asked told service true before after
AsksRefusedLoad asked told service _ before after = AsksLoadSome asked told service before after
