-- Which reply is an answer to a call (Transaction Service 1.4, module CosTransactions; CORBA, General Inter-ORB Protocol,
-- Reply Message and Reply Body): what the operation gives, one of its user exceptions, or a system exception. That some
-- octets may be left is our profile.
use Rattle.std.specs.Prelude.{◌≡◌, ℕ, true, false, List, [], ◌∷◌, Some, None, IsTrue, Bool}
use Rattle.std.specs.List.{list_any}
use Rattle.std.specs.Str.{bytes_eq}
use Rattle.cdr_values.specs.Again.{standing}
use Rattle.cdr_values.specs.Reading.{Reading}
use Rattle.cdr_values.specs.Tagged.{reference_values}
use Rattle.cdr_values.specs.Value.{Value, Boolean, ULong, ULongLong, Text}
use Rattle.giop_frames.specs.declared.message.Reply.{Reply}
use Rattle.ior_refs.specs.Reference.{is_short}
use Rattle.ots_model.specs.declared.completion.Vote.{Vote}
use Rattle.ots_model.specs.declared.completion.Vote.TheVariants as votes
use Rattle.ots_context.specs.Context.{StandsAsContext}
use Rattle.ots_calls.specs.Call.{AreLeft, operation_of, status_number as number_of_status}
use Rattle.ots_calls.specs.Exception.{system_id, user_id}
use Rattle.ots_calls.specs.Table.{row_of}
use Rattle.ots_calls.specs.declared.answer.Answer.{Answer}
use Rattle.ots_calls.specs.declared.answer.Answer.TheVariants as answers
use Rattle.ots_calls.specs.declared.answer.Completed.{Completed}
use Rattle.ots_calls.specs.declared.answer.Completed.TheVariants as completed
use Rattle.ots_calls.specs.declared.answer.Given.{Given}
use Rattle.ots_calls.specs.declared.answer.Given.TheVariants as given
use Rattle.ots_calls.specs.declared.call.Call.{Call}
use Rattle.ots_calls.specs.declared.exception.UserException.{UserException}
use Rattle.ots_calls.specs.declared.gives.Gives.{Gives}
use Rattle.ots_calls.specs.declared.gives.Gives.TheVariants as gives
use Rattle.ots_calls.specs.declared.operation.Operation.{Operation}

-- the number of a Vote
abbrev pub vote_number : Vote → ℕ
vote_number votes.VoteCommit = 0
vote_number votes.VoteRollback = 1
vote_number votes.VoteReadOnly = 2

-- the number of a completion_status
abbrev pub completed_number : Completed → ℕ
completed_number completed.Yes = 0
completed_number completed.No = 1
completed_number completed.Maybe = 2

-- NO_EXCEPTION, USER_EXCEPTION and SYSTEM_EXCEPTION, as reply_status
abbrev pub status_number : Answer → ℕ
status_number (answers.Plain what) = 0
status_number (answers.User exception) = 1
status_number (answers.System exception minor done) = 2

-- which operations give such
abbrev pub gives_of : Given → Gives
gives_of given.Nothing = gives.Nothing
gives_of (given.Flag flag) = gives.Flag
gives_of (given.Number number) = gives.Number
gives_of (given.Reference reference) = gives.Reference
gives_of (given.State status) = gives.State
gives_of (given.Ballot vote) = gives.Ballot
gives_of (given.Word text) = gives.Word
gives_of (given.Transaction context) = gives.Transaction
gives_of (given.Found value) = gives.Found

-- the operation raises this user exception
abbrev pub raises : Operation → UserException → Bool
raises operation exception = list_any (λ one. bytes_eq (user_id exception) (user_id one)) (row_of operation).raises

-- the values of what was given, but for a context, which is told otherwise. A value that isn't there is written as 0 (our
-- profile).
abbrev pub given_values : Given → List Value
given_values given.Nothing = []
given_values (given.Flag flag) = Boolean flag ∷ []
given_values (given.Number number) = ULong number ∷ []
given_values (given.Reference reference) = reference_values reference
given_values (given.State status) = ULong (number_of_status status) ∷ []
given_values (given.Ballot vote) = ULong (vote_number vote) ∷ []
given_values (given.Word text) = Text text ∷ []
given_values (given.Transaction context) = []
given_values (given.Found (Some value)) = Boolean true ∷ ULongLong value ∷ []
given_values (given.Found None) = Boolean false ∷ ULongLong 0 ∷ []

-- what a reader has left was given. A value that isn't there may be any (our profile).
abbrev pub IsGiven : Given → Reading → Type 0
IsGiven (given.Reference reference) r = AreLeft (reference_values reference) r × IsTrue (is_short reference)
IsGiven (given.Transaction context) r = StandsAsContext context r
IsGiven (given.Found None) r = (value : ℕ) × AreLeft (Boolean false ∷ ULongLong value ∷ []) r
IsGiven what r = AreLeft (given_values what) r

-- an operation may be answered so: it gives such, or raises the user exception
abbrev pub IsOf : Operation → Answer → Type 0
IsOf operation (answers.Plain what) = gives_of what ≡ (row_of operation).gives
IsOf operation (answers.User exception) = IsTrue (raises operation exception)
IsOf operation (answers.System exception minor done) = Unit {0}

-- an answer of this service's own: the minor code of a system exception is 0 (our profile)
abbrev pub IsOwn : Answer → Type 0
IsOwn (answers.System exception minor done) = minor ≡ 0
IsOwn answer = Unit {0}

-- what a reader has left is the answer
abbrev pub Says : Answer → Reading → Type 0
Says (answers.Plain what) r = IsGiven what r
Says (answers.User exception) r = AreLeft (Text (user_id exception) ∷ []) r
Says (answers.System exception minor done) r =
    AreLeft (Text (system_id exception) ∷ ULong minor ∷ ULong (completed_number done) ∷ []) r

-- the reply is this answer to the call
pub record IsAnswer (call : Call) (answer : Answer) (reply : Reply) : Type 0 where
  pub ours : IsOf (operation_of call) answer
  pub status : reply.status ≡ status_number answer
  pub says : Says answer (standing reply.order 0 reply.body)
