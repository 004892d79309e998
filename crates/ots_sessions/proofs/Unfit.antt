-- An answer that is none of its call's is told as BAD_PARAM.
use Rattle.std.proofs.Common.{◌≡◌, ◌∙◌, ◌⊎◌, ◌∷◌, inl, inr, refl, ap, ℕ, Bool, List, [], Option, Some, None, Result, Ok, Err}
use Rattle.cdr_values.specs.Reading.{◌>>=◌}
use Rattle.cdr_values.specs.declared.fault.CdrFault.{CdrFault}
use Rattle.cdr_values.specs.declared.fault.CdrFault.TheVariants as cdr
use Rattle.cdr_values.specs.Value.{Text, ULong, Value}
use Rattle.cdr_values.specs.Writing.{Writing, refusal, with_value}
use Rattle.giop_frames.specs.declared.message.Reply.{Reply}
use Rattle.ior_refs.specs.declared.fault.IorFault.{IorFault}
use Rattle.ior_refs.specs.declared.fault.IorFault.TheVariants as ior
use Rattle.ior_refs.specs.declared.key.ObjectKey.{ObjectKey}
use Rattle.ots_context.specs.declared.fault.ContextFault.{ContextFault}
use Rattle.ots_context.specs.declared.fault.ContextFault.TheVariants as contexts
use Rattle.ots_context.specs.Writing.{with_context}
use Rattle.ots_calls.specs.Answer.{IsOf, completed_number, given_values}
use Rattle.ots_calls.specs.AnswerWriting.{IsUnwritten, answer_body, given_body, reply_of, reply_with}
use Rattle.ots_calls.specs.Call.{operation_of}
use Rattle.ots_calls.specs.Exception.{system_id, user_id}
use Rattle.ots_calls.specs.Fault.{fault_of, fault_of_context, fault_of_reference, told_as}
use Rattle.ots_calls.specs.Writing.{blank, octets_with, then_unless}
use Rattle.ots_calls.specs.declared.answer.Answer.{Answer}
use Rattle.ots_calls.specs.declared.answer.Answer.TheVariants as answered
use Rattle.ots_calls.specs.declared.answer.Given.{Given}
use Rattle.ots_calls.specs.declared.answer.Given.TheVariants as given
use Rattle.ots_calls.specs.declared.call.Called.{Called}
use Rattle.ots_calls.specs.declared.fault.CallFault.{CallFault}
use Rattle.ots_calls.specs.declared.fault.CallFault.TheVariants.{BadParam, Memory}
use Rattle.ots_calls.specs.declared.system.SystemException.TheVariants as systems
use Rattle.ots_sessions.specs.Replies.{AnswersCall, without_step}
use Rattle.ots_sessions.specs.RepliesInside.{IsAnsweredBy}

-- no value, reference or context is refused as BAD_PARAM
value_fault : (fault : CdrFault) → fault_of fault ≡ BadParam → ⊥
value_fault (cdr.Short place) is = absurd (cc (is))
value_fault (cdr.BadBoolean place) is = absurd (cc (is))
value_fault (cdr.BadString place) is = absurd (cc (is))
value_fault (cdr.BadOrder place) is = absurd (cc (is))
value_fault (cdr.TooLong place most) is = absurd (cc (is))
value_fault cdr.Memory is = absurd (cc (is))

reference_fault : (fault : IorFault) → fault_of_reference fault ≡ BadParam → ⊥
reference_fault (ior.Cdr fault) is = value_fault fault is
reference_fault (ior.BadText place) is = absurd (cc (is))
reference_fault (ior.TooLong place) is = absurd (cc (is))
reference_fault (ior.Rest place) is = absurd (cc (is))
reference_fault ior.NoIiop is = absurd (cc (is))
reference_fault ior.Memory is = absurd (cc (is))

context_fault : (fault : ContextFault) → fault_of_context fault ≡ BadParam → ⊥
context_fault (contexts.Cdr fault) is = value_fault fault is
context_fault (contexts.Ior fault) is = reference_fault fault is
context_fault (contexts.TooMany place) is = absurd (cc (is))
context_fault contexts.Otid is = absurd (cc (is))
context_fault contexts.TailPlace is = absurd (cc (is))
context_fault contexts.Memory is = absurd (cc (is))

told_fault : (written : Result (List ℕ) ContextFault) → told_as fault_of_context written ≡ Err BadParam → ⊥
told_fault (Ok octets) is = absurd (cc (is))
told_fault (Err fault) is = context_fault fault (cc (is))

unless_fault : (o : Option CdrFault) (next : Result (List ℕ) CallFault) → (next ≡ Err BadParam → ⊥) → then_unless o next ≡ Err BadParam → ⊥
unless_fault None next never is = never is
unless_fault (Some fault) next never is = value_fault fault (cc (is))

values_fault : (w : Writing) (values : List Value) → octets_with w values ≡ Err BadParam → ⊥
values_fault w [] is = absurd (cc (is))
values_fault w (value ∷ values) is =
    unless_fault (refusal w value) (octets_with (with_value w value) values) (values_fault (with_value w value) values) is

given_fault : (what : Given) → given_body what ≡ Err BadParam → ⊥
given_fault (given.Transaction context) is = told_fault (with_context blank context) is
given_fault (given.Reference reference) is = absurd (cc (is))
given_fault given.Nothing is = values_fault blank (given_values given.Nothing) is
given_fault (given.Flag flag) is = values_fault blank (given_values (given.Flag flag)) is
given_fault (given.State status) is = values_fault blank (given_values (given.State status)) is
given_fault (given.Number number) is = values_fault blank (given_values (given.Number number)) is
given_fault (given.Word name) is = values_fault blank (given_values (given.Word name)) is
given_fault (given.Ballot vote) is = values_fault blank (given_values (given.Ballot vote)) is
given_fault (given.Found found) is = values_fault blank (given_values (given.Found found)) is

body_fault : (a : Answer) → answer_body a ≡ Err BadParam → ⊥
body_fault (answered.Plain what) is = given_fault what is
body_fault (answered.User exception) is = values_fault blank (Text (user_id exception) ∷ []) is
body_fault (answered.System exception minor done) is =
    values_fault blank (Text (system_id exception) ∷ ULong minor ∷ ULong (completed_number done) ∷ []) is

by_body : (id : ℕ) (a : Answer) (body : Result (List ℕ) CallFault) → (body >>= λ octets. Ok (reply_with id a octets)) ≡ Err BadParam → body ≡ Err BadParam
by_body id a (Ok octets) is = absurd (cc (is))
by_body id a (Err fault) is = cc (is)

reply_fault : (id : ℕ) (a : Answer) → reply_of id a ≡ Err BadParam → ⊥
unfolding reply_of
reply_fault id a is = body_fault a (by_body id a (answer_body a) is)

module _ {S : Type 0} (finds : S → ObjectKey → Bool → S → Type 0) (answers : S → Called → Answer → S → Type 0)
    (id : ℕ) (before : S) (called : Called) (reply : Reply) (after : S) (a : Answer) (answered : AnswersCall finds answers before called a after) where
  pub answered_by_own : IsOf (operation_of called.call) a → reply_of id a ≡ Ok reply → IsAnsweredBy finds answers id before called reply after
  answered_by_own own is = record {
    answer = a;
    answers_call = answered;
    told = a;
    told_is = record { own = λ _. refl; foreign = λ other. absurd (other own) };
    reply_is = is;
  }

  foreign_by : ¬ IsOf (operation_of called.call) a → reply_of id (without_step systems.BadParam) ≡ Ok reply
      → IsAnsweredBy finds answers id before called reply after
  foreign_by other is = record {
    answer = a;
    answers_call = answered;
    told = without_step systems.BadParam;
    told_is = record { own = λ own. absurd (other own); foreign = λ _. refl };
    reply_is = is;
  }

  pub answered_foreign : (fault : CallFault) → fault ≡ BadParam → (fault ≡ Memory) ⊎ IsUnwritten fault id called.call a
      → reply_of id (without_step systems.BadParam) ≡ Ok reply → IsAnsweredBy finds answers id before called reply after
  answered_foreign fault bad (inl memory) is = absurd (cc (bad, memory))
  answered_foreign fault bad (inr (inl (same, other))) is = foreign_by other is
  answered_foreign fault bad (inr (inr (own, refused))) is = absurd (reply_fault id a (refused ∙ ap (λ f. Err f) bad))
