-- The reply with an answer (our profile). It is big endian, with padding 0, and has no service contexts.
use Rattle.std.specs.Prelude.{◌≡◌, ◌⊎◌, ℕ, List, [], ◌∷◌, length, Result, Ok, Err}
use Rattle.cdr_values.specs.declared.order.Order.TheVariants.{Big}
use Rattle.cdr_values.specs.Reading.{◌>>=◌}
use Rattle.cdr_values.specs.Tagged.{reference_values}
use Rattle.cdr_values.specs.Value.{ULong, Text}
use Rattle.cdr_values.specs.Values.{with_values}
use Rattle.giop_frames.specs.declared.message.Reply.{Reply}
use Rattle.ots_context.specs.Writing.{kept_length, with_context}
use Rattle.ots_calls.specs.Answer.{IsOf, completed_number, given_values, status_number}
use Rattle.ots_calls.specs.Call.{operation_of}
use Rattle.ots_calls.specs.Exception.{system_id, user_id}
use Rattle.ots_calls.specs.Fault.{fault_of_context, told_as}
use Rattle.ots_calls.specs.Writing.{blank, octets_with}
use Rattle.ots_calls.specs.declared.answer.Answer.{Answer}
use Rattle.ots_calls.specs.declared.answer.Answer.TheVariants as answers
use Rattle.ots_calls.specs.declared.answer.Given.{Given}
use Rattle.ots_calls.specs.declared.answer.Given.TheVariants as given
use Rattle.ots_calls.specs.declared.call.Call.{Call}
use Rattle.ots_calls.specs.declared.fault.CallFault.{CallFault}
use Rattle.ots_calls.specs.declared.fault.CallFault.TheVariants.{BadParam}

-- the body of what was given
abbrev pub given_body : Given → Result (List ℕ) CallFault
given_body (given.Transaction context) = told_as fault_of_context (with_context blank context)
given_body (given.Reference reference) = Ok (with_values blank (reference_values reference)).octets
given_body what = octets_with blank (given_values what)

-- the body of an answer
abbrev pub answer_body : Answer → Result (List ℕ) CallFault
answer_body (answers.Plain what) = given_body what
answer_body (answers.User exception) = octets_with blank (Text (user_id exception) ∷ [])
answer_body (answers.System exception minor done) =
    octets_with blank (Text (system_id exception) ∷ ULong minor ∷ ULong (completed_number done) ∷ [])

-- the reply with this body
abbrev pub reply_with : ℕ → Answer → List ℕ → Reply
reply_with id answer body = record {
  id = id;
  status = status_number answer;
  contexts = [];
  order = Big;
  body = body;
}

-- the reply with an answer
unfoldable pub reply_of : ℕ → Answer → Result Reply CallFault
reply_of id answer = answer_body answer >>= λ body. Ok (reply_with id answer body)

-- why no reply is written: the answer is none of the call's, or a value of it is refused
abbrev pub IsUnwritten : CallFault → ℕ → Call → Answer → Type 0
IsUnwritten fault id call answer =
    ((fault ≡ BadParam) × ¬ IsOf (operation_of call) answer)
    ⊎ (IsOf (operation_of call) answer × (reply_of id answer ≡ Err fault))

-- how many octets of no fixed limit were given
abbrev pub given_length : Answer → ℕ
given_length (answers.Plain (given.Transaction context)) = kept_length context.tail
given_length (answers.Plain (given.Word text)) = length text
given_length answer = 0
