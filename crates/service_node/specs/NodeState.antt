-- A node as its callers see it: as it is defined, with its journal (our profile).
use Rattle.std.specs.Prelude.{◌≡◌, ◌⊎◌, ℕ, List, Option, IfSome, Result, Err}
use Rattle.std.specs.Option.{option_map}
use Rattle.std.specs.Result.{IsOk}
use Rattle.ior_refs.specs.declared.key.ObjectKey.{ObjectKey}
use Rattle.ots_outside.specs.Disk.{DiskState}
use Rattle.decision_journal.specs.Journal.{Found, Holds, with_record}
use Rattle.decision_journal.specs.declared.record.JournalRecord.{JournalRecord}
use Rattle.decision_journal.specs.State.{JournalState}
use Rattle.recovery_coord.specs.Held.{Recoveries}
use Rattle.recovery_coord.specs.declared.held.Held.{Held}
use Rattle.coordinator.specs.declared.node.NodeFault.{NodeFault}
use Rattle.coordinator.specs.declared.node.NodeFault.TheVariants as faults
use Rattle.coordinator.specs.Family.{Family, FamilyParts}
use Rattle.coordinator.specs.Node.{Node, load}
use Rattle.coordinator.specs.NodeParts.{IsWhole}
use Rattle.coordinator.specs.NodeSlots.{Created}

-- a node, and its journal
pub record NodeState (D : Type 0) : Type 0 where
  pub node : Node
  pub journal : JournalState D

-- the family of a slot, without the memory that was taken for its next step
abbrev pub shown : Option FamilyParts → Option Family
shown place = option_map (λ (p : FamilyParts). p.family) place

-- the node of these parts
abbrev pub node_of : ℕ → Found → List Held → List (Option Family) → ℕ → ℕ → Node
node_of service found records families last generation = record {
  service = service;
  found = found;
  recovered = records;
  families = families;
  last = last;
  generation = generation;
}

-- what is held of records is that of this journal: they are told again by its service, in its life. A record in doubt leaves the life.
pub record IsOfJournal {D : Type 0} (journal : JournalState D) (recovered : Recoveries) : Type 0 where
  pub service_is : recovered.service ≡ journal.service
  pub life_is : recovered.life ≡ journal.found.life
  pub life_stays : IfSome journal.doubted (λ r. (place : ℕ) → (with_record journal.found place r).life ≡ journal.found.life)

-- parts that belong together
pub record BelongTogether {D : Type 0} (journal : JournalState D) (recovered : Recoveries) (families : List (Option Family)) (last generation : ℕ) : Type 0 where
  pub whole : IsWhole (node_of journal.service journal.found recovered.records families last generation)
  pub own : IsOfJournal journal recovered

-- a node is whole, and it is of its journal: of its service, with what was found in it. A record in doubt leaves the life.
pub record HangsTogether {D : Type 0} (n : NodeState D) : Type 0 where
  pub whole : IsWhole n.node
  pub service_is : n.node.service ≡ n.journal.service
  pub found_is : n.node.found ≡ n.journal.found
  pub life_stays : IfSome n.journal.doubted (λ r. (place : ℕ) → (with_record n.journal.found place r).life ≡ n.journal.found.life)

-- the journal of a node keeps its service and its life
pub record StaysInLife {D : Type 0} (before after : NodeState D) : Type 0 where
  pub service_is : after.journal.service ≡ before.journal.service
  pub life_is : after.journal.found.life ≡ before.journal.found.life

-- a family is made as the definition says, and the journal stays
pub record IsMade {D : Type 0} (before after : NodeState D) (said : Result ObjectKey NodeFault) (created : Created) : Type 0 where
  pub node : after.node ≡ created.node
  pub answer : said ≡ created.answer
  pub journal : after.journal ≡ before.journal

-- or one would be made, but memory was wanted, and nothing happened
pub record IsStarved {D : Type 0} (before after : NodeState D) (said : Result ObjectKey NodeFault) (created : Created) : Type 0 where
  pub granted : IsOk created.answer
  pub same : after ≡ before
  pub answer : said ≡ Err faults.Memory

abbrev pub IsMadeOrStarved : {D : Type 0} → NodeState D → NodeState D → Result ObjectKey NodeFault → Created → Type 0
IsMadeOrStarved before after said created = IsMade before after said created ⊎ IsStarved before after said created

-- the node that a load leaves is that of the records which its disk held, in their next life
pub record IsBegun (service : ℕ) (n : Node) (before after : DiskState) : Type 0 where
  pub records : List JournalRecord
  pub held : Holds service before.reads records
  pub node_is : n ≡ load service records
