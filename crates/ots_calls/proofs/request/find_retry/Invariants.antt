use Rattle.std.proofs.Common.{◌≡◌, ◌==◌, find, drop}
use Rattle.giop_frames.specs.declared.message.ServiceContext.{ServiceContext}
use Rattle.ots_calls.specs.Limits.{retry_context}
use Rattle.ots_calls.proofs.request.find_retry.Given as goal

abbrev pub invariant-loop-context : goal.invariant-loop-context
invariant-loop-context l =
    find (λ (context : ServiceContext). context.id == retry_context) (drop l.context-index l.contexts)
    ≡ find (λ (context : ServiceContext). context.id == retry_context) l.contexts
