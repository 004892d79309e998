-- The context of a request (CORBA, Service Context; Transaction Service 1.4: the service context TransactionService). Of
-- several with this number the first counts (our profile).
use Rattle.std.specs.Prelude.{ℕ, ◌==◌, List, Option, Some, None, find, Result, Ok}
use Rattle.std.specs.Option.{option_map}
use Rattle.giop_frames.specs.declared.message.ServiceContext.{ServiceContext}
use Rattle.cdr_values.specs.Reading.{◌>>=◌}
use Rattle.ots_context.specs.Limits.{transaction_service}
use Rattle.ots_context.specs.Reading.{context_in}
use Rattle.ots_context.specs.declared.fault.ContextFault.{ContextFault}
use Rattle.ots_context.specs.declared.context.Context.{Context}

-- the octets of the first service context of the Transaction Service
abbrev pub first_context : List ServiceContext → Option (List ℕ)
first_context contexts = option_map (λ context. context.bytes) (find (λ context. context.id == transaction_service) contexts)

-- what they say, where there is one
abbrev pub context_in_first : Option (List ℕ) → Result (Option Context) ContextFault
context_in_first None = Ok None
context_in_first (Some octets) = context_in octets >>= λ context. Ok (Some context)
