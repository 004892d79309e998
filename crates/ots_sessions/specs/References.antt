-- The objects of a service: their interfaces, their keys, and the references to them (Transaction Service 1.4, module
-- CosTransactions; keys are our profile).
use Rattle.std.specs.Prelude.{ℕ, ◌==◌, List, codes, if◌then◌else◌}
use Rattle.ior_refs.specs.Making as making
use Rattle.ior_refs.specs.Reference.{Reference}
use Rattle.ior_refs.specs.declared.key.ObjectKey.{ObjectKey}
use Rattle.ots_model.specs.declared.completion.CallNumber.{CallNumber}
use Rattle.ots_model.specs.declared.service.Endpoint.{Endpoint}

-- the repository ids of a SubtransactionAwareResource, of an Object and of a Resource
unfoldable pub aware_id : List ℕ
aware_id = codes "IDL:omg.org/CosTransactions/SubtransactionAwareResource:1.0"

unfoldable pub object_id : List ℕ
object_id = codes "IDL:omg.org/CORBA/Object:1.0"

unfoldable pub resource_id : List ℕ
resource_id = codes "IDL:omg.org/CosTransactions/Resource:1.0"

-- the repository id of the interface of objects whose keys are of this kind
unfoldable pub type_id_of : ℕ → List ℕ
type_id_of kind =
    if kind == 70 then codes "IDL:omg.org/CosTransactions/TransactionFactory:1.0" else
    if kind == 67 then codes "IDL:omg.org/CosTransactions/Control:1.0" else
    if kind == 84 then codes "IDL:omg.org/CosTransactions/Terminator:1.0" else
    if kind == 75 then codes "IDL:omg.org/CosTransactions/Coordinator:1.0" else
    if kind == 86 then codes "IDL:omg.org/CosTransactions/RecoveryCoordinator:1.0" else
    if kind == 82 then resource_id else
    if kind == 85 then resource_id else
    if kind == 89 then codes "IDL:omg.org/CosTransactions/Synchronization:1.0" else
    if kind == 65 then aware_id else
    if kind == 68 then codes "IDL:ots.local/Cells:1.0" else
    object_id

-- the key of the factory of a service
abbrev pub factory_key : ℕ → ObjectKey
factory_key service = record { kind = 70; service = service; life = 0; slot = 0; generation = 0; index = 0 }

-- the key of its cells
abbrev pub cells_key : ℕ → ObjectKey
cells_key service = record { kind = 68; service = service; life = 0; slot = 0; generation = 0; index = 0 }

-- the key of a coordinator of the family that made a call
abbrev pub coordinator_key : ℕ → CallNumber → ℕ → ObjectKey
coordinator_key service number branch = record {
  kind = 75;
  service = service;
  life = number.life;
  slot = number.slot;
  generation = number.generation;
  index = branch;
}

-- the reference to an object of the service that stands at this place
abbrev pub reference_to : Endpoint → ObjectKey → Reference
reference_to at key = making.reference_to (type_id_of key.kind) at key
