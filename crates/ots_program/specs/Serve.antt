-- How a service ends (our profile).
use Rattle.std.specs.Prelude.{◌≡◌, ◌⊎◌, ◌≤◌, ℕ, Bool, true, List, [], ◌∷◌, ◌++◌, length, Option, Some, None}
use Rattle.decision_journal.specs.Limits.{area_limit}
use Rattle.decision_journal.specs.declared.journal.JournalFault.{JournalFault}
use Rattle.decision_journal.specs.declared.journal.JournalFault.TheVariants as journal
use Rattle.coordinator.specs.declared.node.NodeFault.{NodeFault}
use Rattle.coordinator.specs.declared.node.NodeFault.TheVariants as faults
use Rattle.ior_refs.specs.Text.{text_of}
use Rattle.ior_refs.specs.declared.key.ObjectKey.{ObjectKey}
use Rattle.ots_model.specs.declared.service.Endpoint.{Endpoint}
use Rattle.ots_outside.specs.Disk.{DiskState, Tells}
use Rattle.ots_outside.specs.Sink.{Takes, TakesPart}
use Rattle.resource_end.specs.Faults as end_faults
use Rattle.resource_end.specs.declared.fault.EndFault.{EndFault}
use Rattle.resource_end.specs.declared.fault.EndFault.TheVariants as refusals
use Rattle.service_node.specs.Faults as nodes
use Rattle.ots_sessions.specs.References.{cells_key, factory_key, reference_to}
use Rattle.ots_sessions.specs.Sessions.{HasJobs}
use Rattle.ots_sessions.specs.declared.sessions.ServeEnd.{ServeEnd}
use Rattle.ots_sessions.specs.declared.sessions.ServeEnd.TheVariants as ends
use Rattle.ots_program.specs.declared.devices.Devices.{Devices}
use Rattle.ots_program.specs.declared.status.Status.{Status}
use Rattle.ots_program.specs.declared.status.Status.TheVariants as statuses
use Rattle.ots_program.specs.Words.{Serving}

-- there are links and clocks for two: for sessions, and for ticks
pub record HasTwo {S K D O L C R : Type 0} (devices : Devices S K D O L C R) : Type 0 where
  pub links : 2 ≤ length devices.links.items
  pub clocks : 2 ≤ length devices.clocks.items

-- the status where a journal isn't loaded for this reason
abbrev pub status_of_journal : JournalFault → Status
status_of_journal journal.DiskFault = statuses.DiskFault
status_of_journal (journal.Full used need) = statuses.Limit 0 area_limit
status_of_journal (journal.BadHeader place) = statuses.BadJournal place
status_of_journal (journal.BadRecord place) = statuses.BadJournal place
status_of_journal journal.LivesSpent = statuses.BadJournal 0
status_of_journal journal.Memory = statuses.Memory

-- where a node isn't, and where a resource end isn't
abbrev pub status_of_load : NodeFault → Status
status_of_load (faults.Journal fault) = status_of_journal fault
status_of_load fault = statuses.Memory

abbrev pub status_of_end : EndFault → Status
status_of_end (refusals.Start fault) = status_of_journal fault
status_of_end fault = statuses.Memory

-- the status where a service ends so
abbrev pub status_by : ServeEnd → Status
status_by ends.Ended = statuses.Done
status_by ends.DoorFault = statuses.DoorFault
status_by ends.Memory = statuses.Memory

-- a node was not loaded from this disk for a reason, which is the status
pub record IsRefusedLoad {D : Type 0} (told : D → Option DiskState) (counts : D → ℕ) (service : ℕ) (status : Status) (before after : D) : Type 0 where
  pub fault : NodeFault
  pub cause : nodes.IsLoadCause area_limit service (told before) (counts before) (counts after) fault
  pub left : Tells (told before) (told after) (nodes.IsRefusedLoad service fault)
  pub status_is : status ≡ status_of_load fault

-- a resource end was not
pub record IsRefusedEnd {D : Type 0} (told : D → Option DiskState) (counts : D → ℕ) (service : ℕ) (status : Status) (before after : D) : Type 0 where
  pub fault : EndFault
  pub cause : end_faults.IsLoadCause area_limit service (told before) (counts before) (counts after) fault
  pub left : Tells (told before) (told after) (end_faults.IsRefusedLoad service fault)
  pub status_is : status ≡ status_of_end fault

-- a load was refused for that status; where there is no disk it is DiskFault
abbrev pub IsOfDisk : {D : Type 0} → (Status → D → D → Type 0) → Status → Option D → Option D → Type 0
IsOfDisk refused status (Some before) (Some after) = refused status before after
IsOfDisk refused status None None = status ≡ statuses.DiskFault
IsOfDisk refused status before after = ⊥

-- DiskFault, Limit and BadJournal come only where a load of the disk was refused
abbrev pub IsUnloadedBy : {D : Type 0} → (Status → D → D → Type 0) → Status → Option D → Option D → Type 0
IsUnloadedBy refused statuses.DiskFault before after = IsOfDisk refused statuses.DiskFault before after
IsUnloadedBy refused (statuses.Limit line limit) before after = IsOfDisk refused (statuses.Limit line limit) before after
IsUnloadedBy refused (statuses.BadJournal place) before after = IsOfDisk refused (statuses.BadJournal place) before after
IsUnloadedBy refused status before after = Unit {0}

-- of a node, and of a resource end
abbrev pub IsUnloaded : {D : Type 0} → (D → Option DiskState) → (D → ℕ) → ℕ → Status → Option D → Option D → Type 0
IsUnloaded told counts service = IsUnloadedBy (IsRefusedLoad told counts service)

abbrev pub IsUnloadedEnd : {D : Type 0} → (D → Option DiskState) → (D → ℕ) → ℕ → Status → Option D → Option D → Type 0
IsUnloadedEnd told counts service = IsUnloadedBy (IsRefusedEnd told counts service)

-- the statuses of a load, of the line that is told, and of what comes behind a load
abbrev pub is_of_load : Status → Type 0
is_of_load statuses.DiskFault = Unit {0}
is_of_load (statuses.Limit line limit) = Unit {0}
is_of_load (statuses.BadJournal place) = Unit {0}
is_of_load statuses.Memory = Unit {0}
is_of_load status = ⊥

abbrev pub is_of_telling : Status → Type 0
is_of_telling statuses.WriteFault = Unit {0}
is_of_telling statuses.Memory = Unit {0}
is_of_telling status = ⊥

abbrev pub is_of_session : Status → Type 0
is_of_session statuses.Done = Unit {0}
is_of_session statuses.WriteFault = Unit {0}
is_of_session statuses.DoorFault = Unit {0}
is_of_session statuses.Memory = Unit {0}
is_of_session status = ⊥

-- a status of a service
abbrev pub OfService : Status → Type 0
OfService statuses.Done = Unit {0}
OfService statuses.WriteFault = Unit {0}
OfService (statuses.Limit line limit) = Unit {0}
OfService statuses.DiskFault = Unit {0}
OfService statuses.DoorFault = Unit {0}
OfService (statuses.BadJournal place) = Unit {0}
OfService statuses.Memory = Unit {0}
OfService status = ⊥

-- a service is done: its door has ended, and each connection was given a job
pub record HasServed (ended : Bool) (given_before given_after started_before started_after refused_before refused_after : ℕ) : Type 0 where
  pub door : ended ≡ true
  pub jobs : HasJobs given_before given_after started_before started_after refused_before refused_after

-- where the objects of a service stand
abbrev pub endpoint_of : Serving → Endpoint
endpoint_of s = record { host = s.host; port = s.port }

-- the stringified reference of an object that stands there, as a line
abbrev pub reference_line : Endpoint → ObjectKey → List ℕ
reference_line at key = text_of (reference_to at key) ++ 10 ∷ []

-- that of the factory of a service, and that of the cells of a resource end
abbrev pub factory_line : Serving → List ℕ
factory_line s = reference_line (endpoint_of s) (factory_key s.number)

abbrev pub cells_line : Serving → List ℕ
cells_line s = reference_line (endpoint_of s) (cells_key s.number)

-- what a service has written when it ends: that line, or nothing
abbrev pub TellsOrNot : List ℕ → Option (List ℕ) → Option (List ℕ) → Type 0
TellsOrNot line before after = Takes before line after ⊎ (after ≡ before)

abbrev pub TellsLine : Status → List ℕ → Option (List ℕ) → Option (List ℕ) → Type 0
TellsLine statuses.Done line before after = Takes before line after
TellsLine statuses.WriteFault line before after = TakesPart before line after
TellsLine statuses.DoorFault line before after = TellsOrNot line before after
TellsLine statuses.Memory line before after = TellsOrNot line before after
TellsLine status line before after = after ≡ before
