-- Reading the body of a call from the left, and its first fault (our profile).
use Rattle.std.specs.Prelude.{ℕ, ◌==◌, Bool, ◌&&◌, nat_lt, List, [], ◌∷◌, length, Option, find, Result, Ok, Err, if◌then◌else◌}
use Rattle.cdr_values.specs.Reading.{Reading, ◌>>=◌, boolean_at, ulong_at, ulonglong_at, string_at}
use Rattle.ior_refs.specs.Reference.{Reference}
use Rattle.ior_refs.specs.Reading.{short_reference_at}
use Rattle.ots_model.specs.declared.service.Status.{Status}
use Rattle.ots_model.specs.declared.service.Status.TheVariants as status
use Rattle.ots_context.specs.Reading.{context_at}
use Rattle.ots_calls.specs.Limits.{left_limit}
use Rattle.ots_calls.specs.Call.{status_number}
use Rattle.ots_calls.specs.Fault.{fault_of, fault_of_context, fault_of_reference, told_as, or_refuse}
use Rattle.ots_calls.specs.declared.fault.CallFault.{CallFault}
use Rattle.ots_calls.specs.declared.fault.CallFault.TheVariants.{Marshal, BadParam}
use Rattle.ots_calls.specs.declared.operation.Operation.{Operation}
use Rattle.ots_calls.specs.declared.operation.Operation.TheVariants as operations
use Rattle.ots_calls.specs.declared.call.Call.{Call}
use Rattle.ots_calls.specs.declared.call.Call.TheVariants as calls

-- what was read, where few octets are left behind it
unfoldable pub ended : {A : Type 0} → A → Reading → Result A CallFault
ended x r = if nat_lt left_limit (length r.rest) then Err (Marshal r.place) else Ok x

-- the statuses
abbrev pub statuses : List Status
statuses =
    status.Active ∷ status.MarkedRollback ∷ status.Prepared ∷ status.Committed ∷ status.RolledBack ∷ status.Unknown
    ∷ status.NoTransaction ∷ status.Preparing ∷ status.Committing ∷ status.RollingBack ∷ []

-- the Status of a number
unfoldable pub status_of : ℕ → Option Status
status_of number = find (λ one. number == status_number one) statuses

-- a reference names no object
abbrev pub is_nil : Reference → Bool
is_nil reference = (length reference.0 == 0) && (length reference.1 == 0)

-- the call, where its reference names an object
unfoldable pub with_object : Reference → Call → Result Call CallFault
with_object reference call = if is_nil reference then Err BadParam else Ok call

-- what the operation takes is held in memory: a reference, a context, a text
abbrev pub IsHeld : Operation → Type 0
IsHeld (operations.Handing handing) = Unit {0}
IsHeld operations.Recreate = Unit {0}
IsHeld operations.IsA = Unit {0}
IsHeld operation = ⊥

-- the call of an operation whose parameters a reader has left
unfoldable pub call_at : Operation → Reading → Result Call CallFault
call_at (operations.Bare bare) r = ended (calls.Bare bare) r
call_at (operations.Handing handing) r = do
  reference ← told_as fault_of_reference (short_reference_at r)
  call ← ended (calls.Handing handing reference.0) reference.1
  with_object reference.0 call
call_at operations.Create r = do
  time_out ← told_as fault_of (ulong_at r)
  ended (calls.Create time_out.0) time_out.1
call_at operations.Recreate r = do
  context ← told_as fault_of_context (context_at r)
  Ok (calls.Recreate context)
call_at operations.CommitTransaction r = do
  report_heuristics ← told_as fault_of (boolean_at r)
  ended (calls.CommitTransaction report_heuristics.0) report_heuristics.1
call_at operations.AfterCompletion r = do
  number ← told_as fault_of (ulong_at r)
  status ← or_refuse (Marshal r.place) (status_of number.0)
  ended (calls.AfterCompletion status) number.1
call_at operations.Put r = do
  cell ← told_as fault_of (ulonglong_at r)
  value ← told_as fault_of (ulonglong_at cell.1)
  ended (calls.Put cell.0 value.0) value.1
call_at operations.Get r = do
  cell ← told_as fault_of (ulonglong_at r)
  ended (calls.Get cell.0) cell.1
call_at operations.IsA r = do
  id ← told_as fault_of (string_at r)
  ended (calls.IsA id.0) id.1
