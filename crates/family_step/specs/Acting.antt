-- What a call does on what its key names, by its kind.
use Rattle.std.specs.Prelude.{◌≡◌, ◌==◌, ℕ, Bool, List, length, Option, Some, None, if◌then◌else◌}
use Rattle.coordinator.specs.Family.{Family}
use Rattle.coordinator.specs.Moves.{only}
use Rattle.coordinator.specs.Names.{name_of, hash_of, is_same, is_related, is_ancestor_of, is_descendant_of}
use Rattle.coordinator.specs.Phases.{top_status}
use Rattle.coordinator.specs.Table as table
use Rattle.coordinator.specs.Table.{Acted, says}
use Rattle.coordinator.specs.declared.event.Act.{Act}
use Rattle.coordinator.specs.declared.event.Act.TheVariants as acts
use Rattle.coordinator.specs.declared.said.Said.{Said}
use Rattle.coordinator.specs.declared.said.Said.TheVariants as said
use Rattle.family_rules.specs.Changes.{DraftParts, so_far}

-- a call has been carried out of which nothing comes but its answer
abbrev pub ActsAlone : Family → (Family → Acted) → Family → Said → Type 0
ActsAlone f rule g answer = ((rule f).moved ≡ only g) × (answer ≡ (rule f).said)

-- what a call is answered that changes nothing
abbrev pub told : Act → ℕ → Family → Said
told acts.GetTerminator b f = if table.has_terminator f b then said.Plain else said.Unavailable
told acts.GetTopLevelStatus b f = said.State (top_status f)
told (acts.IsSameTransaction other) b f = is_same f b other
told (acts.IsRelatedTransaction other) b f = is_related f b other
told (acts.IsAncestorTransaction other) b f = is_ancestor_of f b other
told (acts.IsDescendantTransaction other) b f = is_descendant_of f b other
told acts.IsTopLevelTransaction b f = said.Flag (b == 0)
told acts.HashTransaction b f = said.Number (hash_of f b)
told acts.HashTopLevelTran b f = said.Number (hash_of f 0)
told _ b f = said.Plain

-- what a call does on a transaction that is there
abbrev pub carried_out : Act → ℕ → Family → Acted
carried_out (acts.Commit asked) b f = table.commits b (length f.entries) asked f
carried_out acts.Rollback b f = table.rolls_back_asked b (length f.entries) f
carried_out acts.RollbackOnly b f = table.marks_only b f
carried_out (acts.RegisterResource to aware) b f = table.registers_resource b to aware f
carried_out (acts.RegisterSynchronization to) b f = table.registers_synchronization b to f
carried_out (acts.RegisterSubtranAware to) b f = table.registers_aware b to f
carried_out acts.CreateSubtransaction b f = table.creates_subtransaction b f
carried_out acts.GetTransactionName b f = says (said.Name (name_of f b)) f
carried_out act b f = says (told act b f) f

-- what its key names is there
abbrev pub is_named_there : Act → ℕ → Family → Bool
is_named_there (acts.Commit asked) b f = table.has_terminator f b
is_named_there acts.Rollback b f = table.has_terminator f b
is_named_there _ b f = table.has_branch f b

abbrev pub called : Act → ℕ → Family → Acted
called act b f = if is_named_there act b f then carried_out act b f else says said.ObjectNotExist f

-- the reference that an act registers
abbrev pub reference_in : Act → Option (List ℕ)
reference_in (acts.RegisterResource to aware) = Some to
reference_in (acts.RegisterSynchronization to) = Some to
reference_in (acts.RegisterSubtranAware to) = Some to
reference_in _ = None

-- how long it is, where the one that is registered may take part
abbrev pub length_in : Act → ℕ
length_in (acts.RegisterResource to aware) = length to
length_in (acts.RegisterSubtranAware to) = length to
length_in _ = 0

-- the name that it is answered, where it asks for one
abbrev pub name_in : Act → ℕ → Family → Option (List ℕ)
name_in acts.GetTransactionName b f = Some (name_of f b)
name_in _ b f = None

-- a name that is said
abbrev pub name_of_said : Said → Option (List ℕ)
name_of_said (said.Name octets) = Some octets
name_of_said _ = None

-- what a step has brought, and what is said at once
abbrev pub brings : Family → DraftParts → Said → Acted
brings f d answer = record { moved = so_far f d; said = answer }
