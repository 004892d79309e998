-- Which request is a call (CORBA, General Inter-ORB Protocol, Request Message; Transaction Service 1.4, module
-- CosTransactions), and in which order a request is refused (our profile): by its target, the key's spelling, the
-- operation, the transaction's context, the retry key, and then its body.
use Rattle.std.specs.Prelude.{◌≡◌, ◌⊎◌, ℕ, List, Option, Some, None, IsOk, IsTrue, Result, Ok, Err}
use Rattle.cdr_values.specs.Again.{standing}
use Rattle.cdr_values.specs.Reading.{◌>>=◌}
use Rattle.giop_frames.specs.declared.message.Request.{Request}
use Rattle.giop_frames.specs.declared.message.Target.{Target}
use Rattle.giop_frames.specs.declared.message.Target.TheVariants.{Key}
use Rattle.ior_refs.specs.Key.{SpellsKey}
use Rattle.ior_refs.specs.declared.key.ObjectKey.{ObjectKey}
use Rattle.ots_context.specs.Context.{IsContext}
use Rattle.ots_context.specs.Finding.{context_in_first, first_context}
use Rattle.ots_calls.specs.Table.{operation_named, serves, word_of}
use Rattle.ots_calls.specs.Call.{IsBody, operation_of}
use Rattle.ots_calls.specs.Fault.{fault_of_context, told_as, or_refuse}
use Rattle.ots_calls.specs.Reading.{IsHeld, call_at}
use Rattle.ots_calls.specs.Retry.{IsRetry, first_retry, retry_in_first}
use Rattle.ots_calls.specs.declared.fault.CallFault.{CallFault}
use Rattle.ots_calls.specs.declared.fault.CallFault.TheVariants.{BadOperation, BadTarget, BadKey}
use Rattle.ots_calls.specs.declared.call.Called.{Called}
use Rattle.ots_calls.specs.declared.operation.Operation.{Operation}

-- the target of a request is this key of ours
pub record IsFor (key : ObjectKey) (target : Target) : Type 0 where
  pub octets : List ℕ
  pub is_key : target ≡ Key octets
  pub spelled : SpellsKey octets key

-- a value is there exactly where there are octets, and then they are it
abbrev pub AreBoth : {A : Type 0} → (A → List ℕ → Type 0) → Option A → Option (List ℕ) → Type 0
AreBoth Is (Some x) (Some octets) = Is x octets
AreBoth Is None None = Unit {0}
AreBoth Is x octets = ⊥

-- the request is this call
pub record IsCall (c : Called) (r : Request) : Type 0 where
  pub key : IsFor c.key r.target
  pub word : r.operation ≡ word_of (operation_of c.call)
  pub kind : IsTrue (serves c.key.kind (operation_of c.call))
  pub context : AreBoth IsContext c.context (first_context r.contexts)
  pub retry : AreBoth IsRetry c.retry (first_retry r.contexts)
  pub body : IsBody c.call (standing r.order 0 r.body)

-- what a request for this key says
unfoldable pub called_with : ObjectKey → Request → Result Called CallFault
called_with key r = do
  operation ← or_refuse BadOperation (operation_named key.kind r.operation)
  context ← told_as fault_of_context (context_in_first (first_context r.contexts))
  retry ← retry_in_first (first_retry r.contexts)
  call ← call_at operation (standing r.order 0 r.body)
  Ok (record { key = key; call = call; retry = retry; context = context })

-- the target is no key
abbrev pub HasNoKey : Target → Type 0
HasNoKey target = (octets : List ℕ) → ¬ (target ≡ Key octets)

-- the target is a key, but none of ours
abbrev pub HasForeignKey : Target → Type 0
HasForeignKey target = (octets : List ℕ) × (target ≡ Key octets) × ((key : ObjectKey) → ¬ (SpellsKey octets key))

-- why a request is no call
abbrev pub Refuses : CallFault → Request → Type 0
Refuses fault r =
    ((fault ≡ BadTarget) × HasNoKey r.target) ⊎ (((fault ≡ BadKey) × HasForeignKey r.target)
    ⊎ ((key : ObjectKey) × IsFor key r.target × (called_with key r ≡ Err fault)))

-- for a request for this key memory is wanted: the key has the operation, and the request holds a transaction, or its retry
-- key stands and what the operation takes is held in memory
abbrev pub WantsMemoryFor : ObjectKey → Request → Type 0
WantsMemoryFor key r = (operation : Operation)
    × (operation_named key.kind r.operation ≡ Some operation)
    × (¬ (first_context r.contexts ≡ None) ⊎ (IsHeld operation × IsOk (retry_in_first (first_retry r.contexts))))

-- for a request memory is wanted. A target and a key are always judged.
abbrev pub WantsMemory : Request → Type 0
WantsMemory r = (key : ObjectKey) × IsFor key r.target × WantsMemoryFor key r
