-- Reading a context from the left, and its first fault (our profile).
use Rattle.std.specs.Prelude.{ℕ, ℤ, List, Result, Ok, Err, if◌then◌else◌}
use Rattle.cdr_values.specs.Reading.{Reading, ◌>>=◌, ulong_at, octets_at}
use Rattle.cdr_values.specs.Sequence.{Read, fault_as, sequence_at}
use Rattle.cdr_values.specs.Encapsulation.{opened}
use Rattle.ior_refs.specs.Reference.{Reference}
use Rattle.ior_refs.specs.Reading.{short_reference_at}
use Rattle.otid_names.specs.Otid.{OtidParts}
use Rattle.ots_context.specs.Limits.{parent_limit}
use Rattle.ots_context.specs.Fault.{fault_of, of_reference, too_many}
use Rattle.ots_context.specs.Identity.{has_lengths, otid_of}
use Rattle.ots_context.specs.Tail.{tail_at}
use Rattle.ots_context.specs.declared.fault.ContextFault.{ContextFault}
use Rattle.ots_context.specs.declared.fault.ContextFault.TheVariants.{Otid}
use Rattle.ots_context.specs.declared.context.Identity.{Identity}
use Rattle.ots_context.specs.declared.context.Context.{Context}

-- an otid. Its lengths are judged when it is whole.
unfoldable pub otid_at : Read OtidParts ContextFault
otid_at r = do
  format ← fault_as fault_of (ulong_at r)
  bqual ← fault_as fault_of (ulong_at format.1)
  tid ← fault_as fault_of (octets_at bqual.1)
  if has_lengths bqual.0 tid.0 then Ok (otid_of format.0 bqual.0 tid.0, tid.1) else Err Otid

-- the otid of these fields, of which none is read
abbrev pub otid_in : ℤ → ℕ → List ℕ → Result OtidParts ContextFault
otid_in format bqual tid =
    if has_lengths bqual tid then Ok (record { format = format; bqual = bqual; tid = tid }) else Err Otid

-- an identity, behind the reference to its coordinator
unfoldable pub identity_behind : Reference → Read Identity ContextFault
identity_behind coord r = do
  term ← of_reference (short_reference_at r)
  otid ← otid_at term.1
  Ok (record { coord = coord; term = term.0; otid = otid.0 }, otid.1)

unfoldable pub identity_at : Read Identity ContextFault
identity_at r = do
  coord ← of_reference (short_reference_at r)
  identity_behind coord.0 coord.1

-- the parents. Their count is judged before the first of them.
unfoldable pub parents_at : Read (List Identity) ContextFault
parents_at r = sequence_at parent_limit fault_of too_many identity_at r

-- a context, behind the current identity
unfoldable pub context_behind : ℕ → Identity → Reading → Result Context ContextFault
context_behind timeout current r = do
  parents ← parents_at r
  Ok (record { timeout = timeout; current = current; parents = parents.0; tail = tail_at parents.1 })

-- a context, which is all that is left
unfoldable pub context_at : Reading → Result Context ContextFault
context_at r = do
  timeout ← fault_as fault_of (ulong_at r)
  current ← identity_at timeout.1
  context_behind timeout.0 current.0 current.1

-- the context in an encapsulation
unfoldable pub context_in : List ℕ → Result Context ContextFault
context_in octets = do
  reader ← fault_as fault_of (opened octets)
  context_at reader
