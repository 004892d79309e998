-- A node: the families that one service runs in one life, and the records of its journal that are told again (that the families
-- have slots, that a load begins a life, and what a load leaves, are our profile).
use Rattle.std.specs.Prelude.{ℕ, ◌+◌, ◌==◌, ◌&&◌, Bool, List, [], ◌∷◌, ◌++◌, replicate, slice_get, slice_set, filter_map, Option, Some, None, if◌then◌else◌}
use Rattle.std.specs.Option.{option_and_then}
use Rattle.ior_refs.specs.declared.key.ObjectKey.{ObjectKey}
use Rattle.decision_journal.specs.Journal.{Found, found_in}
use Rattle.decision_journal.specs.declared.record.JournalRecord.{JournalRecord}
use Rattle.decision_journal.specs.declared.record.JournalRecord.TheVariants.{Life}
use Rattle.recovery_coord.specs.Held.{Recoveries, loaded}
use Rattle.recovery_coord.specs.declared.held.Held.{Held}
use Rattle.coordinator.specs.Limits.{slot_limit, last_slot}
use Rattle.coordinator.specs.Family.{Family}

pub record Node : Type 0 where
  -- the number of the service
  pub service : ℕ
  -- what its journal leaves: the life, and the records that stand
  pub found : Found
  -- those whose families are gone, as they are told again
  pub recovered : List Held
  -- the family of each slot
  pub families : List (Option Family)
  -- the slot that was given last, and how many families were made in this life
  pub last : ℕ
  pub generation : ℕ

-- the life that a node is in
abbrev pub life : Node → ℕ
life n = n.found.life

-- what it holds of its records
abbrev pub recoveries : Node → Recoveries
recoveries n = record { service = n.service; life = life n; records = n.recovered }

abbrev pub no_families : List (Option Family)
no_families = replicate slot_limit None

-- a node that was loaded: no family is there, the records that stand are to be told again, and the next slot is the first
abbrev pub loaded_node : ℕ → Found → Node
loaded_node service found = record {
  service = service;
  found = found;
  recovered = filter_map loaded found.standing;
  families = no_families;
  last = last_slot;
  generation = 0;
}

-- a load begins the next life
abbrev pub in_next_life : List JournalRecord → List JournalRecord
in_next_life records = records ++ Life ((found_in records).life + 1) ∷ []

-- what is loaded from these records. A crash leaves records that the disk may hold then, and nothing else of a node.
abbrev pub load : ℕ → List JournalRecord → Node
load service records = loaded_node service (found_in (in_next_life records))

-- the family of a slot
abbrev pub family_in : List (Option Family) → ℕ → Option Family
family_in families slot = option_and_then (λ (f : Option Family). f) (slice_get families slot)

-- a slot has this family from now on
abbrev pub with_family : Family → Node → Node
with_family f n = record n { families = slice_set n.families f.key.slot (Some f) }

-- a key is of an object of this family
abbrev pub is_of : ObjectKey → Family → Bool
is_of k f = k.service == f.key.service && k.life == f.key.life && k.slot == f.key.slot && k.generation == f.key.generation

abbrev pub only_of : ObjectKey → Family → Option Family
only_of k f = if is_of k f then Some f else None

-- the family that a key names
unfoldable pub family_of : ObjectKey → Node → Option Family
family_of k n = option_and_then (only_of k) (family_in n.families k.slot)
