-- How far a request that is a call is answered.
use Rattle.std.specs.Prelude.{◌≡◌, ℕ, Bool, true, false, Ok}
use Rattle.giop_frames.specs.declared.message.Reply.{Reply}
use Rattle.ior_refs.specs.declared.key.ObjectKey.{ObjectKey}
use Rattle.ots_calls.specs.AnswerWriting.{reply_of}
use Rattle.ots_calls.specs.Call.{operation_of}
use Rattle.ots_calls.specs.declared.answer.Answer.{Answer}
use Rattle.ots_calls.specs.declared.call.Called.{Called}
use Rattle.ots_calls.specs.declared.fault.CallFault.{CallFault}
use Rattle.ots_calls.specs.declared.fault.CallFault.TheVariants as faults
use Rattle.ots_sessions.specs.Replies.{AnswersCall, IsTold}

-- the reply to a request with this id that is this call
pub record IsAnsweredBy {S : Type 0} (finds : S → ObjectKey → Bool → S → Type 0) (answers : S → Called → Answer → S → Type 0)
    (id : ℕ) (before : S) (called : Called) (reply : Reply) (after : S) : Type 0 where
  pub answer : Answer
  pub answers_call : AnswersCall finds answers before called answer after
  pub told : Answer
  pub told_is : IsTold (operation_of called.call) answer told
  pub reply_is : reply_of id told ≡ Ok reply

abbrev pub is_memory : CallFault → Bool
is_memory faults.Memory = true
is_memory fault = false
