-- What a request for one of our keys says, step by step.
use Rattle.std.specs.Prelude.{◌≡◌, ◌⊎◌, Option, None, IsOk, Result, Ok}
use Rattle.cdr_values.specs.Again.{standing}
use Rattle.cdr_values.specs.Reading.{◌>>=◌}
use Rattle.giop_frames.specs.declared.message.Request.{Request}
use Rattle.giop_frames.specs.declared.message.Target.{Target}
use Rattle.ior_refs.specs.declared.key.ObjectKey.{ObjectKey}
use Rattle.ots_context.specs.Finding.{context_in_first, first_context}
use Rattle.ots_context.specs.declared.context.Context.{Context}
use Rattle.ots_calls.specs.Fault.{fault_of_context, told_as}
use Rattle.ots_calls.specs.Reading.{IsHeld, call_at}
use Rattle.ots_calls.specs.Request.{HasForeignKey, HasNoKey}
use Rattle.ots_calls.specs.Retry.{first_retry, retry_in_first}
use Rattle.ots_calls.specs.declared.call.Called.{Called}
use Rattle.ots_calls.specs.declared.fault.CallFault.{CallFault}
use Rattle.ots_calls.specs.declared.fault.CallFault.TheVariants.{BadKey, BadTarget}
use Rattle.ots_calls.specs.declared.request.Said.{Said}
use Rattle.ots_calls.specs.declared.operation.Operation.{Operation}

-- why this target is none of our keys
abbrev pub RefusesTarget : CallFault → Target → Type 0
RefusesTarget fault target =
    ((fault ≡ BadTarget) × HasNoKey target) ⊎ ((fault ≡ BadKey) × HasForeignKey target)

-- the call of this operation and the retry key
abbrev pub said_by : Operation → Request → Result Said CallFault
said_by operation r = do
  retry ← retry_in_first (first_retry r.contexts)
  call ← call_at operation (standing r.order 0 r.body)
  Ok (record { call = call; retry = retry })

-- what it says, where it calls this operation within a transaction with this context, or within none
abbrev pub called_within : ObjectKey → Operation → Option Context → Request → Result Called CallFault
called_within key operation context r = do
  said ← said_by operation r
  Ok (record { key = key; call = said.call; retry = said.retry; context = context })

-- what it says, where it calls this operation
abbrev pub called_as : ObjectKey → Operation → Request → Result Called CallFault
called_as key operation r = do
  context ← told_as fault_of_context (context_in_first (first_context r.contexts))
  called_within key operation context r

-- its retry key stands, and what the operation takes is held in memory
abbrev pub HoldsArguments : Operation → Request → Type 0
HoldsArguments operation r = IsHeld operation × IsOk (retry_in_first (first_retry r.contexts))

-- memory is wanted: it holds a transaction, or what the operation takes is held in memory
abbrev pub WantsMemoryAs : Operation → Request → Type 0
WantsMemoryAs operation r = ¬ (first_context r.contexts ≡ None) ⊎ HoldsArguments operation r
