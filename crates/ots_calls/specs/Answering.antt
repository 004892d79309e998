-- Reading the answer to a call from the left, and the first fault (our profile).
use Rattle.std.specs.Prelude.{◌≡◌, ℕ, ◌==◌, Bool, not, [], ◌∷◌, Option, find, Some, None, Result, Ok, Err, if◌then◌else◌}
use Rattle.cdr_values.specs.Again.{standing}
use Rattle.cdr_values.specs.Reading.{Reading, ◌>>=◌, boolean_at, ulong_at, ulonglong_at, string_at}
use Rattle.giop_frames.specs.declared.message.Reply.{Reply}
use Rattle.ior_refs.specs.Reading.{short_reference_at}
use Rattle.ots_model.specs.declared.completion.Vote.{Vote}
use Rattle.ots_model.specs.declared.completion.Vote.TheVariants as votes
use Rattle.ots_context.specs.Reading.{context_at}
use Rattle.ots_calls.specs.Answer.{completed_number, raises, vote_number}
use Rattle.ots_calls.specs.Call.{operation_of}
use Rattle.ots_calls.specs.Exception.{system_named, user_named}
use Rattle.ots_calls.specs.Fault.{fault_of, fault_of_context, fault_of_reference, told_as, or_refuse}
use Rattle.ots_calls.specs.Reading.{ended, status_of}
use Rattle.ots_calls.specs.Table.{row_of}
use Rattle.ots_calls.specs.declared.answer.Answer.{Answer}
use Rattle.ots_calls.specs.declared.answer.Answer.TheVariants as answers
use Rattle.ots_calls.specs.declared.answer.Completed.{Completed}
use Rattle.ots_calls.specs.declared.answer.Completed.TheVariants as completed
use Rattle.ots_calls.specs.declared.answer.Given.{Given}
use Rattle.ots_calls.specs.declared.answer.Given.TheVariants as given
use Rattle.ots_calls.specs.declared.call.Call.{Call}
use Rattle.ots_calls.specs.declared.fault.CallFault.{CallFault}
use Rattle.ots_calls.specs.declared.fault.CallFault.TheVariants.{Marshal, Garbled, Memory}
use Rattle.ots_calls.specs.declared.gives.Gives.{Gives}
use Rattle.ots_calls.specs.declared.gives.Gives.TheVariants as gives
use Rattle.ots_calls.specs.declared.operation.Operation.{Operation}

-- the Vote of a number
unfoldable pub vote_of : ℕ → Option Vote
vote_of number = find (λ one. number == vote_number one) (votes.VoteCommit ∷ votes.VoteRollback ∷ votes.VoteReadOnly ∷ [])

-- the completion_status of a number
unfoldable pub completed_of : ℕ → Option Completed
completed_of number =
    find (λ one. number == completed_number one) (completed.Yes ∷ completed.No ∷ completed.Maybe ∷ [])

-- a value, where there is one
abbrev pub found_value : Bool → ℕ → Option ℕ
found_value is_there value = if is_there then Some value else None

-- what a reader has left was given
unfoldable pub given_at : Gives → Reading → Result Given CallFault
given_at gives.Nothing r = ended given.Nothing r
given_at gives.Flag r = do
  flag ← told_as fault_of (boolean_at r)
  ended (given.Flag flag.0) flag.1
given_at gives.Number r = do
  number ← told_as fault_of (ulong_at r)
  ended (given.Number number.0) number.1
given_at gives.Reference r = do
  reference ← told_as fault_of_reference (short_reference_at r)
  ended (given.Reference reference.0) reference.1
given_at gives.State r = do
  number ← told_as fault_of (ulong_at r)
  status ← or_refuse (Marshal r.place) (status_of number.0)
  ended (given.State status) number.1
given_at gives.Ballot r = do
  number ← told_as fault_of (ulong_at r)
  vote ← or_refuse (Marshal r.place) (vote_of number.0)
  ended (given.Ballot vote) number.1
given_at gives.Word r = do
  text ← told_as fault_of (string_at r)
  ended (given.Word text.0) text.1
given_at gives.Transaction r = do
  context ← told_as fault_of_context (context_at r)
  Ok (given.Transaction context)
given_at gives.Found r = do
  is_there ← told_as fault_of (boolean_at r)
  value ← told_as fault_of (ulonglong_at is_there.1)
  ended (given.Found (found_value is_there.0 value.0)) value.1

-- what is given is held in memory: a reference, a context, a text
abbrev pub IsHeld : Gives → Type 0
IsHeld gives.Reference = Unit {0}
IsHeld gives.Word = Unit {0}
IsHeld gives.Transaction = Unit {0}
IsHeld such = ⊥

-- a user exception that the operation raises
unfoldable pub raised_at : Operation → Reading → Result Answer CallFault
raised_at operation r = do
  id ← told_as fault_of (string_at r)
  exception ← or_refuse (Marshal r.place) (user_named id.0)
  if not (raises operation exception) then Err (Marshal r.place) else ended (answers.User exception) id.1

-- a system exception
unfoldable pub system_at : Reading → Result Answer CallFault
system_at r = do
  id ← told_as fault_of (string_at r)
  exception ← or_refuse (Marshal r.place) (system_named id.0)
  minor ← told_as fault_of (ulong_at id.1)
  number ← told_as fault_of (ulong_at minor.1)
  done ← or_refuse (Marshal minor.1.place) (completed_of number.0)
  ended (answers.System exception minor.0 done) number.1

-- the answer of a reply with this status: NO_EXCEPTION, USER_EXCEPTION or SYSTEM_EXCEPTION
unfoldable pub answer_at : Operation → ℕ → Reading → Result Answer CallFault
answer_at operation status r =
    if status == 0 then (given_at (row_of operation).gives r >>= λ what. Ok (answers.Plain what)) else
    if status == 1 then raised_at operation r else
    if status == 2 then system_at r else Err (Marshal r.place)

-- an answer of this status is held in memory. For none else memory is wanted.
abbrev pub WantsMemory : Operation → ℕ → Type 0
WantsMemory operation status = (status ≡ 0) × IsHeld (row_of operation).gives

-- a fault of a reply. The reply is garbled at that offset.
abbrev pub garbled : CallFault → CallFault
garbled (Marshal place) = Garbled place
garbled Memory = Memory
garbled fault = Garbled 0

-- the answer that a reply is
unfoldable pub answer_with : Call → Reply → Result Answer CallFault
answer_with call reply =
    told_as garbled (answer_at (operation_of call) reply.status (standing reply.order 0 reply.body))
