-- Calls that are refused, whatever their bodies and contexts.
use Rattle.std.proofs.Common.{◌≡◌, ℕ, Bool, true, false, not, cond, Option, Some, None, Result, Err, refl, sym, subst, ap}
use Rattle.giop_frames.specs.declared.message.Request.{Request}
use Rattle.ior_refs.specs.Key.{is_kind}
use Rattle.ots_calls.specs.Call.{operation_of}
use Rattle.ots_calls.specs.Fault.{Fails}
use Rattle.ots_calls.specs.Table.{serves}
use Rattle.ots_calls.specs.Writing.{LacksObject, LacksOperation, lacks_object, request_of}
use Rattle.ots_calls.specs.WritingInside.{IsAllowed, refusal, written_request}
use Rattle.ots_calls.specs.declared.call.Called.{Called}
use Rattle.ots_calls.specs.declared.fault.CallFault.{CallFault}
use Rattle.ots_calls.specs.declared.fault.CallFault.TheVariants.{BadKey, BadOperation, BadParam}

-- one of three reasons, or none
abbrev one_of : Bool → Bool → Bool → Option CallFault
one_of kind served lacks = cond (not kind) (Some BadKey) (cond (not served) (Some BadOperation) (cond lacks (Some BadParam) None))

abbrev unless_one_of : Bool → Bool → Bool → Result Request CallFault → Result Request CallFault
unless_one_of kind served lacks next = cond (not kind) (Err BadKey) (cond (not served) (Err BadOperation) (cond lacks (Err BadParam) next))

some_is : (one other : CallFault) → Some one ≡ Some other → one ≡ other
some_is one other e = cc

fails : (kind served lacks : Bool) (next : Result Request CallFault) (fault : CallFault) → one_of kind served lacks ≡ Some fault → Fails fault (unless_one_of kind served lacks next)
fails false served lacks next fault e = subst (λ (one : CallFault). Fails one (unless_one_of false served lacks next)) (some_is BadKey fault e) refl
fails true false lacks next fault e = subst (λ (one : CallFault). Fails one (unless_one_of true false lacks next)) (some_is BadOperation fault e) refl
fails true true true next fault e = subst (λ (one : CallFault). Fails one (unless_one_of true true true next)) (some_is BadParam fault e) refl
fails true true false next fault e = absurd cc

none : (kind served lacks : Bool) → one_of kind served lacks ≡ None → (kind ≡ true) × (served ≡ true) × (lacks ≡ false)
none false served lacks e = absurd cc
none true false lacks e = absurd cc
none true true true e = absurd cc
none true true false e = (refl, refl, refl)

pub refused : (id : ℕ) (c : Called) (fault : CallFault) → refusal c ≡ Some fault → Fails fault (request_of id c)
unfolding request_of
refused id c fault e = fails (is_kind c.key.kind) (serves c.key.kind (operation_of c.call)) (lacks_object c.call) (written_request id c) fault e

pub allowed : (c : Called) → refusal c ≡ None → IsAllowed c
allowed c e =
    let all = none (is_kind c.key.kind) (serves c.key.kind (operation_of c.call)) (lacks_object c.call) e in
    record { kind = all.0; served = all.1; object = all.2 }

-- a request that is refused
abbrev refusing : CallFault → Result Request CallFault
refusing fault = Err fault

-- it is not both
pub not_both : (b : Bool) → b ≡ false → b ≡ true → ⊥
not_both false fails passes = absurd cc
not_both true fails passes = absurd cc

for_key : (kind served lacks : Bool) (fault : CallFault) → one_of kind served lacks ≡ Some fault → kind ≡ false → refusing fault ≡ refusing BadKey
for_key false served lacks fault e is = ap refusing (sym (some_is BadKey fault e))
for_key true served lacks fault e is = absurd (not_both true is refl)

for_operation : (kind served lacks : Bool) (fault : CallFault) → one_of kind served lacks ≡ Some fault → kind ≡ true → served ≡ false → refusing fault ≡ refusing BadOperation
for_operation false served lacks fault e kind-is is = absurd (not_both false refl kind-is)
for_operation true false lacks fault e kind-is is = ap refusing (sym (some_is BadOperation fault e))
for_operation true true lacks fault e kind-is is = absurd (not_both true is refl)

for_object : (kind served lacks : Bool) (fault : CallFault) → one_of kind served lacks ≡ Some fault → kind ≡ true → served ≡ true → lacks ≡ true → refusing fault ≡ refusing BadParam
for_object false served lacks fault e kind-is served-is is = absurd (not_both false refl kind-is)
for_object true false lacks fault e kind-is served-is is = absurd (not_both false refl served-is)
for_object true true false fault e kind-is served-is is = absurd (not_both false refl is)
for_object true true true fault e kind-is served-is is = ap refusing (sym (some_is BadParam fault e))

-- which reason it is
pub key_refused : (c : Called) (fault : CallFault) → refusal c ≡ Some fault → is_kind c.key.kind ≡ false → refusing fault ≡ refusing BadKey
key_refused c fault e is = for_key (is_kind c.key.kind) (serves c.key.kind (operation_of c.call)) (lacks_object c.call) fault e is

pub operation_refused : (c : Called) (fault : CallFault) → refusal c ≡ Some fault → LacksOperation c → refusing fault ≡ refusing BadOperation
operation_refused c fault e is = for_operation (is_kind c.key.kind) (serves c.key.kind (operation_of c.call)) (lacks_object c.call) fault e is.0 is.1

pub object_refused : (c : Called) (fault : CallFault) → refusal c ≡ Some fault → LacksObject c → refusing fault ≡ refusing BadParam
object_refused c fault e is = for_object (is_kind c.key.kind) (serves c.key.kind (operation_of c.call)) (lacks_object c.call) fault e is.0 is.1 is.2
