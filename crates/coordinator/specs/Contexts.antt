-- The context that a transaction tells (Transaction Service, module CosTransactions, structs PropagationContext and
-- TransIdentity; which timeout is told, that the tail is null, and that the terminator of a subordinate's top-level
-- transaction is nil, are our profile).
use Rattle.std.specs.Prelude.{ℕ, ◌-◌, min, max, List, [], map, codes, Option, Some, None, if◌then◌else◌}
use Rattle.std.specs.Option.{option_map_or, option_and_then}
use Rattle.ots_model.specs.declared.service.Endpoint.{Endpoint}
use Rattle.ior_refs.specs.Making.{reference_to}
use Rattle.ior_refs.specs.Reference.{Reference, nil}
use Rattle.ior_refs.specs.declared.key.ObjectKey.{ObjectKey}
use Rattle.ots_context.specs.declared.context.AnyTail.TheVariants as tails
use Rattle.ots_context.specs.declared.context.Context.{Context}
use Rattle.ots_context.specs.declared.context.Identity.{Identity}
use Rattle.txn_tree.specs.Rows.{ancestors, parent}
use Rattle.txn_tree.specs.declared.row.Row.{Row}
use Rattle.coordinator.specs.Family.{Family}
use Rattle.coordinator.specs.Names.{coordinator_kind, otid_of}
use Rattle.coordinator.specs.NodeRecords.{terminator_kind}
use Rattle.coordinator.specs.Node.{Node, family_of}
use Rattle.coordinator.specs.Table.{has_branch, has_terminator}

-- the repository ids of a coordinator and of a terminator
abbrev pub coordinator_id : List ℕ
coordinator_id = codes "IDL:omg.org/CosTransactions/Coordinator:1.0"

abbrev pub terminator_id : List ℕ
terminator_id = codes "IDL:omg.org/CosTransactions/Terminator:1.0"

-- how many octets the host has at most at which a service stands
abbrev pub host_limit : ℕ
host_limit = 255

-- the key of an object of a family
abbrev pub key_in : Family → ℕ → ℕ → ObjectKey
key_in f kind index = record f.key { kind = kind; index = index }

-- the references to the coordinator and to the terminator of a transaction, of a service that stands at this place
abbrev pub coordinator_at : Endpoint → Family → ℕ → Reference
coordinator_at at f b = reference_to coordinator_id at (key_in f coordinator_kind b)

abbrev pub terminator_at : Endpoint → Family → ℕ → Reference
terminator_at at f b = if has_terminator f b then reference_to terminator_id at (key_in f terminator_kind b) else nil

-- the identity of a transaction
unfoldable pub identity_of : Endpoint → Family → ℕ → Identity
identity_of at f b = record { coord = coordinator_at at f b; term = terminator_at at f b; otid = otid_of f b }

-- the parents of a branch, from the immediate one to the top
abbrev pub parents : List Row → ℕ → List ℕ
parents rows b = option_map_or (λ p. ancestors rows p) (parent rows b) []

-- the most seconds that a context tells: 2 ^ 32 - 1
abbrev pub last_second : ℕ
last_second = 4294967295

-- the seconds that are left at this moment, at least 1, or 0 where there is no end
abbrev pub seconds_left : ℕ → Option ℕ → ℕ
seconds_left now None = 0
seconds_left now (Some end) = max 1 (min (end - now) last_second)

-- the context of a transaction at this moment
abbrev pub context_of : Endpoint → Family → ℕ → ℕ → Context
context_of at f now b = record {
  timeout = seconds_left now f.deadline;
  current = identity_of at f b;
  parents = map (identity_of at f) (parents f.rows b);
  tail = tails.Null;
}

-- the context of the transaction whose branch a key names, where its family is there and has that branch
abbrev pub context_in : Endpoint → ℕ → ℕ → Family → Option Context
context_in at now b f = if has_branch f b then Some (context_of at f now b) else None

unfoldable pub context_named : Endpoint → ℕ → ObjectKey → Node → Option Context
context_named at now k n = option_and_then (context_in at now k.index) (family_of k n)
