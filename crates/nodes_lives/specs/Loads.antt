-- What a restart makes of the octets of a disk (our profile).
use Rattle.std.specs.Prelude.{◌≡◌, ℕ, List, Some, true, false}
use Rattle.ots_outside.specs.Disk.{at_first}
use Rattle.ots_world.specs.declared.fault.WorldFault.{WorldFault}
use Rattle.ots_world.specs.declared.fault.WorldFault.TheVariants as faults
use Rattle.decision_journal.specs.Journal.{Holds, StandsFor}
use Rattle.decision_journal.specs.Loading.{loaded}
use Rattle.decision_journal.specs.declared.journal.JournalFault.TheVariants.{Full}
use Rattle.decision_journal.specs.declared.record.JournalRecord.{JournalRecord}
use Rattle.coordinator.specs.Node.{load}
use Rattle.coordinator.specs.declared.node.NodeFault.{NodeFault}
use Rattle.coordinator.specs.declared.node.NodeFault.TheVariants as node_faults
use Rattle.nodes_world.specs.Journals.{records_on}
use Rattle.nodes_world.specs.Limits.{area_limit}
use Rattle.nodes_world.specs.Step.{lacks_life}
use Rattle.nodes_lives.specs.Living.{Living}

-- the octets hold a journal of this service, or are not yet one
pub record HoldsJournal (service : ℕ) (octets : List ℕ) : Type 0 where
  pub records : List JournalRecord
  pub held : Holds service octets records

-- the octets are a journal of this service
pub record StoresJournal (service : ℕ) (octets : List ℕ) : Type 0 where
  pub records : List JournalRecord
  pub stands : StandsFor service octets records

-- it was loaded: the node is in the next life, and the disk is as the load leaves it
pub record IsLoaded (service : ℕ) (octets : List ℕ) (n : Living) : Type 0 where
  pub records : List JournalRecord
  pub read : records_on service (at_first octets) ≡ Some records
  pub roomy : lacks_life service records ≡ false
  pub node : n.node ≡ load service records
  pub disk : n.disk ≡ loaded service records (at_first octets)

-- there is no room for a further life
pub record HasNoLife (service : ℕ) (octets : List ℕ) (limit : ℕ) : Type 0 where
  pub records : List JournalRecord
  pub read : records_on service (at_first octets) ≡ Some records
  pub full : lacks_life service records ≡ true
  pub limit_is : limit ≡ area_limit

-- why it was not loaded: there is no room, or memory ran out
abbrev pub IsLoadRefusal : ℕ → List ℕ → WorldFault → Type 0
IsLoadRefusal service octets (faults.Limit limit) = HasNoLife service octets limit
IsLoadRefusal service octets faults.Memory = Unit {0}
IsLoadRefusal service octets faults.Names = ⊥

-- what a fault of the load is to the world
abbrev pub refusal_of : NodeFault → WorldFault
refusal_of (node_faults.Journal (Full used need)) = faults.Limit area_limit
refusal_of _ = faults.Memory
