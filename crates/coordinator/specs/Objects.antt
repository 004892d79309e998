-- Which objects there are (Transaction Service, interfaces Control, Coordinator, Terminator, RecoveryCoordinator and Resource;
-- the letters of their keys, and which objects a record has, are our profile).
use Rattle.std.specs.Prelude.{◌↔◌, ℕ, ◌==◌, ◌&&◌, ◌||◌, Bool, false, Option, Some, None, is_some, IsSome, IsTrue, if◌then◌else◌}
use Rattle.std.specs.Option.{option_map_or}
use Rattle.ior_refs.specs.declared.key.ObjectKey.{ObjectKey}
use Rattle.ots_model.specs.declared.service.RetryKey.{RetryKey}
use Rattle.recovery_coord.specs.Held.{is_decided}
use Rattle.recovery_coord.specs.Limits.{recovery_kind}
use Rattle.recovery_coord.specs.Replay.{party_named}
use Rattle.recovery_coord.specs.declared.held.Held.{Held}
use Rattle.coordinator.specs.declared.event.Act.{Act}
use Rattle.coordinator.specs.Family.{Family}
use Rattle.coordinator.specs.Names.{coordinator_kind}
use Rattle.coordinator.specs.Node.{Node, family_of}
use Rattle.coordinator.specs.NodeRecords.{is_only, record_of, record_says, subordinate_kind, terminator_kind}
use Rattle.coordinator.specs.Table.{has_branch, has_registration, has_terminator}

-- the letter of a control's key: C
abbrev pub control_kind : ℕ
control_kind = 67

-- the resource of a subordinate is its superior's participant: the number 0
abbrev pub has_resource : Family → ℕ → Bool
has_resource f index = index == 0 && is_some f.superior

-- a family has the object of this kind and number: a control, a coordinator or a terminator by its branch, a recovery
-- coordinator by its registration, and the resource of a subordinate
abbrev pub has_object : Family → ℕ → ℕ → Bool
has_object f kind index =
    if kind == control_kind || kind == coordinator_kind then has_branch f index
    else if kind == terminator_kind then has_terminator f index
    else if kind == recovery_kind then has_registration f index
    else kind == subordinate_kind && has_resource f index

-- a record has the object that a key of its tree names: the terminator or the resource of a decision, and the recovery
-- coordinators of the registrations that it names
abbrev pub record_has_object : Held → ObjectKey → Bool
record_has_object r k =
    if k.kind == recovery_kind then is_some (party_named k r)
    else (is_only terminator_kind k || is_only subordinate_kind k) && is_decided r.kind

-- a node has the object that a key names: one of the family that the key names, and where that isn't there, one of the record
abbrev pub has_object_by : Option Family → Option Held → ObjectKey → Bool
has_object_by (Some f) held k = has_object f k.kind k.index
has_object_by None held k = option_map_or (λ (r : Held). record_has_object r k) held false

unfoldable pub node_has_object : ObjectKey → Node → Bool
node_has_object k n = has_object_by (family_of k n) (record_of k n) k

-- some call on the object that a key names is answered by a record
abbrev pub Answers : Held → ObjectKey → Type 0
Answers r k = (by : Option RetryKey) × (act : Act) × IsSome (record_says k by act r)

-- a record has the objects on which it answers calls, and no other
abbrev pub RecordsHaveWhatTheyAnswer : Type 0
RecordsHaveWhatTheyAnswer = (r : Held) (k : ObjectKey) → IsTrue (record_has_object r k) ↔ Answers r k
