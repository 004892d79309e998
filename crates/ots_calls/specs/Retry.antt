-- Retry keys in requests (our profile): a service context of a number of our own holds an encapsulation of the client and
-- of the number of the call, each an unsigned long long. Of several the first counts.
use Rattle.std.specs.Prelude.{◌≡◌, ℕ, ◌==◌, List, [], ◌∷◌, length, Option, Some, None, find, Result, Ok, Err, if◌then◌else◌}
use Rattle.std.specs.Option.{option_map}
use Rattle.cdr_values.specs.Value.{ULongLong}
use Rattle.cdr_values.specs.Values.{ReadsAll}
use Rattle.cdr_values.specs.Encapsulation.{IsEncapsulation, opened}
use Rattle.cdr_values.specs.Reading.{Reading, ◌>>=◌, ulonglong_at}
use Rattle.giop_frames.specs.declared.message.ServiceContext.{ServiceContext}
use Rattle.ots_model.specs.declared.service.RetryKey.{RetryKey}
use Rattle.ots_calls.specs.Limits.{retry_context}
use Rattle.ots_calls.specs.Fault.{fault_of, told_as}
use Rattle.ots_calls.specs.declared.fault.CallFault.{CallFault}
use Rattle.ots_calls.specs.declared.fault.CallFault.TheVariants.{Marshal}

-- the octets are this retry key, and nothing else
pub record IsRetry (key : RetryKey) (octets : List ℕ) : Type 0 where
  pub reader : Reading
  pub behind : Reading
  pub opened : IsEncapsulation octets reader
  pub stand : ReadsAll reader (ULongLong key.client ∷ ULongLong key.number ∷ []) behind
  pub nothing : behind.rest ≡ []

-- the octets of the first service context for retry keys
abbrev pub first_retry : List ServiceContext → Option (List ℕ)
first_retry contexts = option_map (λ context. context.bytes) (find (λ context. context.id == retry_context) contexts)

-- the retry key in an encapsulation
unfoldable pub retry_in : List ℕ → Result RetryKey CallFault
retry_in octets = do
  reader ← told_as fault_of (opened octets)
  client ← told_as fault_of (ulonglong_at reader)
  number ← told_as fault_of (ulonglong_at client.1)
  if length number.1.rest == 0 then Ok (record { client = client.0; number = number.0 }) else Err (Marshal number.1.place)

-- what the first one says, where there is one
abbrev pub retry_in_first : Option (List ℕ) → Result (Option RetryKey) CallFault
retry_in_first None = Ok None
retry_in_first (Some octets) = retry_in octets >>= λ key. Ok (Some key)
