-- What replay_completion is answered by the records alone (interface RecoveryCoordinator of module CosTransactions).
use Rattle.std.specs.Prelude.{◌≡◌, ◌≢◌, ℕ, ◌==◌, Bool, ◌&&◌, List, find, Option, Some, None, Result, Ok, Err}
use Rattle.ots_model.specs.declared.service.Status.{Status}
use Rattle.ior_refs.specs.declared.key.ObjectKey.{ObjectKey}
use Rattle.recovery_coord.specs.declared.held.Party.{Party}
use Rattle.recovery_coord.specs.declared.held.Held.{Held}
use Rattle.recovery_coord.specs.declared.recovered.ReplayFault.{ReplayFault}
use Rattle.recovery_coord.specs.declared.recovered.ReplayFault.TheVariants as fault
use Rattle.recovery_coord.specs.Limits.{recovery_kind}

-- the record is that of the tree which a key of this service names
abbrev pub is_of_tree : ℕ → ObjectKey → Held → Bool
is_of_tree service key r =
    key.service == service && key.life == r.life && key.slot == r.slot && key.generation == r.generation

-- the answer to one registration: how the tree stands where the resource is its own
abbrev pub AnswersParty : Status → Option Party → List ℕ → Result Status ReplayFault → Type 0
AnswersParty status None octets result = result ≡ Err fault.ObjectNotExist
AnswersParty status (Some p) octets result =
    (p.to ≡ octets → result ≡ Ok status) × (p.to ≢ octets → result ≡ Err fault.NotPrepared)

-- the registration that a key names
abbrev pub party_named : ObjectKey → Held → Option Party
party_named key r = find (λ p. p.index == key.index) r.parties

-- the answer by the record of the tree
abbrev pub AnswersRecord : ObjectKey → Option Held → List ℕ → Result Status ReplayFault → Type 0
AnswersRecord key None octets result = result ≡ Err fault.ObjectNotExist
AnswersRecord key (Some r) octets result = AnswersParty r.status (party_named key r) octets result

-- the record that a recovery coordinator's key names
abbrev pub record_named : ℕ → ObjectKey → List Held → Option Held
record_named service key records = find (λ r. key.kind == recovery_kind && is_of_tree service key r) records
