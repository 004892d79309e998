-- A disk in memory: what it was told to do, and which of its calls fail (our profile).
use Rattle.std.specs.Prelude.{◌≡◌, ◌↔◌, ℕ, List, [], ◌∷◌, Contains, Bool, Result, IsErrOf, IsTrue}
use Rattle.ots_outside.specs.declared.disk.DiskRefusal.{DiskRefusal}
use Rattle.ots_outside.specs.declared.disk.DiskRefusal.TheVariants.{Failed}
use Rattle.ots_outside.specs.declared.mem_disk.DiskEvent.{DiskEvent}
use Rattle.ots_outside.specs.declared.mem_disk.DiskEvent.TheVariants.{Wrote, Synced}
use Rattle.ots_outside.specs.Source.{raised}
use Rattle.ots_outside.specs.Disk.{DiskState, IsImage, written, synced}
use Rattle.ots_outside.specs.Faults.{LeavesFaults}

-- a disk after one thing that it was told to do
abbrev pub after_event : DiskState → DiskEvent → DiskState
after_event disk (Wrote place octets) = written place octets.items disk
after_event disk Synced = synced disk

-- a disk after all that it was told to do, in order
abbrev pub after_events : DiskState → List DiskEvent → DiskState
after_events disk [] = disk
after_events disk (event ∷ events) = after_events (after_event disk event) events

-- the octets that are kept are those that the disk reads, and they are one of its images
pub record IsKept (disk : DiskState) (octets : List ℕ) : Type 0 where
  pub reads : disk.reads ≡ octets
  pub image : IsImage disk.present disk.reads

-- a disk in memory: the disk, the calls that are to fail, in order, the number of the next call, and how often it failed
pub record MemDiskState : Type 0 where
  pub disk : DiskState
  pub failing : List ℕ
  pub calls : ℕ
  pub faults : ℕ

-- a call of any kind was counted, and where it answered Ok, it isn't listed
pub record IsCounted (answered : Bool) (before after : MemDiskState) : Type 0 where
  pub failing : after.failing ≡ before.failing
  pub calls : after.calls ≡ raised before.calls
  pub listed : IsTrue answered → Contains before.failing before.calls → ⊥

-- a call of any kind was counted. It failed exactly where it is listed, and then was a fault
pub record CountsCall {T : Type 0} (result : Result T DiskRefusal) (before after : MemDiskState) : Type 0 where
  pub failing : after.failing ≡ before.failing
  pub calls : after.calls ≡ raised before.calls
  pub listed : IsErrOf result Failed ↔ Contains before.failing before.calls
  pub faults : IsErrOf result Failed → after.faults ≡ raised before.faults
  pub no_fault : LeavesFaults result before.faults after.faults
