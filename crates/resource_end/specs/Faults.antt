-- What a fault of the journal is to the callers of its end, what writing a record comes to, and what a refused load makes of its
-- disk (our profile).
use Rattle.std.specs.Prelude.{◌≡◌, ◌⊎◌, ℕ, Bool, true, false, Option, Result, Ok, Err}
use Rattle.ots_outside.specs.Asked.{DiskCall}
use Rattle.ots_outside.specs.Disk.{DiskState}
use Rattle.decision_journal.specs.Asking.{AsksLoad, AsksLoadSome}
use Rattle.decision_journal.specs.Faults as journal_faults
use Rattle.decision_journal.specs.Loading.{IsLoadFault, LoadIsDone}
use Rattle.decision_journal.specs.Loading as loading
use Rattle.decision_journal.specs.declared.journal.JournalFault.{JournalFault}
use Rattle.decision_journal.specs.declared.journal.JournalFault.TheVariants.{DiskFault, Full, BadHeader, BadRecord, LivesSpent, Memory}
use Rattle.resource_end.specs.declared.fault.EndFault.{EndFault}
use Rattle.resource_end.specs.declared.fault.EndFault.TheVariants as faults
use Rattle.resource_end.specs.Calls.{Written, StandsAt, Unwritten, InDoubt}

-- of a journal that is loaded; that no life is left is told there alone
abbrev pub write_fault : JournalFault → EndFault
write_fault DiskFault = faults.PersistStore
write_fault (Full used need) = faults.NoResources
write_fault (BadHeader place) = faults.PersistStore
write_fault (BadRecord place) = faults.PersistStore
write_fault LivesSpent = faults.PersistStore
write_fault Memory = faults.Memory

-- of a load
abbrev pub load_fault : JournalFault → EndFault
load_fault DiskFault = faults.Start DiskFault
load_fault (Full used need) = faults.Start (Full used need)
load_fault (BadHeader place) = faults.Start (BadHeader place)
load_fault (BadRecord place) = faults.Start (BadRecord place)
load_fault LivesSpent = faults.Start LivesSpent
load_fault Memory = faults.Memory

-- an append was refused, and left a journal that has to be read again, or one that is ready
abbrev pub refused_write : Bool → JournalFault → Written
refused_write true fault = InDoubt (write_fault fault)
refused_write false fault = Unwritten (write_fault fault)

-- what an append answered, and whether its journal has to be read again
abbrev pub written_by : Result ℕ JournalFault → Bool → Written
written_by (Ok place) failed = StandsAt place
written_by (Err fault) failed = refused_write failed fault

-- why a load was refused: memory was wanted, or the journal was refused for that cause
abbrev pub IsLoadCause : ℕ → ℕ → Option DiskState → ℕ → ℕ → EndFault → Type 0
IsLoadCause area service told before after (faults.Transient number) = ⊥
IsLoadCause area service told before after faults.Inactive = ⊥
IsLoadCause area service told before after faults.ObjectNotExist = ⊥
IsLoadCause area service told before after faults.PersistStore = ⊥
IsLoadCause area service told before after faults.NoResources = ⊥
IsLoadCause area service told before after (faults.Start fault) = IsLoadFault area service told before after fault
IsLoadCause area service told before after faults.Memory = Unit {0}

-- what a refused load makes of its disk: what a refused load of its journal does, or, where memory was wanted behind that load,
-- what one that is done does
abbrev pub IsRefusedLoad : ℕ → EndFault → DiskState → DiskState → Type 0
IsRefusedLoad service (faults.Transient number) before after = ⊥
IsRefusedLoad service faults.Inactive before after = ⊥
IsRefusedLoad service faults.ObjectNotExist before after = ⊥
IsRefusedLoad service faults.PersistStore before after = ⊥
IsRefusedLoad service faults.NoResources before after = ⊥
IsRefusedLoad service (faults.Start fault) before after = loading.IsRefusedLoad service fault before after
IsRefusedLoad service faults.Memory before after = loading.IsRefusedLoad service Memory before after ⊎ LoadIsDone service before after

-- a refusal for another cause than the disk left this count of faults
abbrev pub IsNoFault : EndFault → ℕ → ℕ → Type 0
IsNoFault (faults.Transient number) before after = ⊥
IsNoFault faults.Inactive before after = ⊥
IsNoFault faults.ObjectNotExist before after = ⊥
IsNoFault faults.PersistStore before after = ⊥
IsNoFault faults.NoResources before after = ⊥
IsNoFault (faults.Start fault) before after = journal_faults.IsNoFault fault before after
IsNoFault faults.Memory before after = after ≡ before

-- which calls a refused load asked of its disk: where the disk tells its state, the first of those of its journal's load, or, where
-- memory was wanted behind that load, all of them
abbrev pub AsksRefusedLoad : {D : Type 0} → (D → DiskCall → Bool → D → Type 0) → (D → Option DiskState) → ℕ → EndFault → D → D → Type 0
AsksRefusedLoad asked told service faults.Memory before after =
    AsksLoadSome asked told service before after ⊎ AsksLoad asked told service true before after
AsksRefusedLoad asked told service _ before after = AsksLoadSome asked told service before after
