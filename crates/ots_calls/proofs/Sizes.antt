-- How many octets what was written has.
use Rattle.std.proofs.Common.{◌≡◌, ℕ, ◌+◌, ◌≤◌, false, List, [], ◌∷◌, ◌++◌, length, Result, Ok, Err, IfOk, refl, subst, arith, length-append}
use Rattle.std.proofs.lemmas.Bool.{le-ltb}
use Rattle.std.proofs.lemmas.List.Sums.{sum_by_push}
use Rattle.cdr_values.specs.Value.{has_nul}
use Rattle.cdr_values.specs.declared.order.Order.TheVariants.{Big}
use Rattle.giop_frames.specs.Encode.{octets_in_contexts, refusal_of}
use Rattle.giop_frames.specs.declared.message.Message.TheVariants as messages
use Rattle.giop_frames.specs.declared.message.Target.TheVariants.{Key}
use Rattle.giop_frames.specs.declared.message.Request.{Request}
use Rattle.giop_frames.specs.declared.message.ServiceContext.{ServiceContext}
use Rattle.ior_refs.specs.Key.{octets_of_key}
use Rattle.ior_refs.specs.declared.key.ObjectKey.{ObjectKey}
use Rattle.ots_calls.specs.Call.{operation_of}
use Rattle.ots_calls.specs.Fault.{Finds}
use Rattle.ots_calls.specs.Table.{word_of}
use Rattle.ots_calls.specs.Writing.{OnlySizeRefuses, request_with, size_of_contexts}
use Rattle.ots_calls.specs.declared.call.Called.{Called}
use Rattle.ots_calls.specs.declared.fault.CallFault.{CallFault}
use Rattle.ots_calls.proofs.Steps.{ok_is}
use Rattle.ots_calls.proofs.Words.{word_plain}

-- one more service context
pub size_more : (contexts : List ServiceContext) (x : ServiceContext) → size_of_contexts (contexts ++ x ∷ []) ≡ size_of_contexts contexts + (1 + length x.bytes)
size_more contexts x =
    let octets : octets_in_contexts (contexts ++ x ∷ []) ≡ octets_in_contexts contexts + length x.bytes = sum_by_push (λ (y : ServiceContext). length y.bytes) contexts x in
    omega (arith, octets, length-append contexts (x ∷ []))

-- a key
pub key_length : (k : ObjectKey) → length (octets_of_key k) ≡ 32
key_length k = refl

-- a request for a short key, whose name has no NUL and which has few service contexts
pub framed : (id : ℕ) (key word : List ℕ) (contexts : List ServiceContext) (body : List ℕ) → length key ≤ 256 → has_nul word ≡ false → length contexts ≤ 16 → OnlySizeRefuses (messages.Request (record { id = id; flags = 3; target = Key key; operation = word; contexts = contexts; order = Big; body = body }))
unfolding refusal_of
framed id key word contexts body short plain few = rw (le-ltb 256 (length key) short, plain, le-ltb 16 (length contexts) few) refl

-- a request of a call that has few service contexts
pub framed_again : (id : ℕ) (c : Called) (contexts : List ServiceContext) (body : List ℕ) (result : Result Request CallFault) → length contexts ≤ 2 → Finds (λ request. request) result (Ok (request_with id c contexts body)) → IfOk result (λ request. OnlySizeRefuses (messages.Request request))
framed_again id c contexts body (Ok request) few h =
    let one : OnlySizeRefuses (messages.Request (request_with id c contexts body)) = framed id (octets_of_key c.key) (word_of (operation_of c.call)) contexts body (omega (arith, key_length c.key)) (word_plain (operation_of c.call)) (omega (arith, few)) in
    subst (λ (x : Request). OnlySizeRefuses (messages.Request x)) (ok_is {F = CallFault} (request_with id c contexts body) request h) one
framed_again id c contexts body (Err fault) few h = tt
