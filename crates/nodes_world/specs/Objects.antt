-- The keys of the objects in a world, and the references by which they are known (CORBA, Interoperable Object References, IIOP
-- IOR Profiles; keys, hosts and ports are our profile).
use Rattle.std.specs.Prelude.{ℕ, ◌+◌, ◌-◌, ◌==◌, ◌&&◌, Bool, List, codes, if◌then◌else◌}
use Rattle.ots_model.specs.declared.completion.CallNumber.{CallNumber}
use Rattle.ots_model.specs.declared.service.Endpoint.{Endpoint}
use Rattle.ior_refs.specs.Making.{reference_to}
use Rattle.ior_refs.specs.Reference.{canonical_octets}
use Rattle.ior_refs.specs.declared.key.ObjectKey.{ObjectKey}
use Rattle.coordinator.specs.Names.{coordinator_kind}
use Rattle.resource_end.specs.Limits.{resource_kind, aware_kind}
use Rattle.nodes_world.specs.declared.deed.Manner.{Manner}
use Rattle.nodes_world.specs.declared.deed.Manner.TheVariants as manners
use Rattle.nodes_world.specs.Limits.{script_port, only_life}

-- the node or the end that is made k-th has the service k, and its place is one less
abbrev pub service_at : ℕ → ℕ
service_at place = place + 1

-- the place of the seat that has the object of a key
abbrev pub place_of : ObjectKey → ℕ
place_of key = key.service - 1

-- ---- transactions

-- the same transaction of the same family, whatever the letters of the keys
abbrev pub same_transaction : ObjectKey → ObjectKey → Bool
same_transaction k other =
    k.service == other.service && k.life == other.life && k.slot == other.slot && k.generation == other.generation
    && k.index == other.index

-- the key of a branch of a family
abbrev pub branch_of : ObjectKey → ℕ → ObjectKey
branch_of key branch = record key { kind = coordinator_kind; index = branch }

-- the key of the family that sends a word with this number from a seat
abbrev pub family_key : ℕ → CallNumber → ObjectKey
family_key place n = record {
  kind = coordinator_kind;
  service = service_at place;
  life = n.life;
  slot = n.slot;
  generation = n.generation;
  index = 0;
}

-- ---- resources

-- the letter of a resource's key: one that is told of the end of a subtransaction has its own
abbrev pub kind_of : Manner → ℕ
kind_of manners.Resource = resource_kind
kind_of manners.Aware = aware_kind
kind_of manners.Double = aware_kind

-- the key of the object with this number, of the end at a place
abbrev pub resource_key : Manner → ℕ → ℕ → ObjectKey
resource_key manner place number = record {
  kind = kind_of manner;
  service = service_at place;
  life = only_life;
  slot = 0;
  generation = number;
  index = 0;
}

-- the interface of an object by the letter of its key
abbrev pub type_of : ℕ → List ℕ
type_of kind =
    if kind == aware_kind then codes "IDL:omg.org/CosTransactions/SubtransactionAwareResource:1.0"
    else codes "IDL:omg.org/CosTransactions/Resource:1.0"

-- where the node or the end of a name listens
abbrev pub listening : List ℕ → Endpoint
listening name = record { host = name; port = script_port }

-- the canonical octets of the reference to an object of the node or end of that name
unfoldable pub reference : List ℕ → ObjectKey → List ℕ
reference name key = canonical_octets (reference_to (type_of key.kind) (listening name) key)
