-- A call is one that every object has, or the servant's own.
use Rattle.std.proofs.Common.{◌≡◌, ◌⊎◌, inl, inr, refl, subst, sym, ap, ℕ, Bool, true, false, List, Result, Ok, Err}
use Rattle.cdr_values.specs.Reading.{◌>>=◌}
use Rattle.giop_frames.specs.declared.message.Reply.{Reply}
use Rattle.giop_frames.specs.declared.message.Request.{Request}
use Rattle.ior_refs.specs.declared.key.ObjectKey.{ObjectKey}
use Rattle.ots_calls.specs.AnswerWriting.{answer_body, reply_of, reply_with}
use Rattle.ots_calls.specs.Request.{HasNoKey, Refuses}
use Rattle.ots_calls.specs.declared.answer.Answer.{Answer}
use Rattle.ots_calls.specs.declared.call.Called.{Called}
use Rattle.ots_calls.specs.declared.fault.CallFault.{CallFault}
use Rattle.ots_calls.specs.declared.fault.CallFault.TheVariants as faults
use Rattle.ots_sessions.specs.Replies.{AnswersBy, AnswersCall, AnswersCommon, IsReply, exception_of, is_common, without_step}
use Rattle.ots_sessions.specs.RepliesInside.{is_memory}

module _ {S : Type 0} (finds : S → ObjectKey → Bool → S → Type 0) (answers : S → Called → Answer → S → Type 0) (called : Called) (before after : S) (a : Answer) where
  pub common_is : true ≡ is_common called.call → AnswersCommon finds answers before called a after → AnswersCall finds answers before called a after
  common_is common answered = subst (λ b. AnswersBy finds answers b before called a after) common answered

  pub own_is : false ≡ is_common called.call → answers before called a after → AnswersCall finds answers before called a after
  own_is common answered = subst (λ b. AnswersBy finds answers b before called a after) common answered

by_body : (id : ℕ) (a : Answer) (reply : Reply) (body : Result (List ℕ) CallFault) → (body >>= λ octets. Ok (reply_with id a octets)) ≡ Ok reply → reply.id ≡ id
by_body id a reply (Ok octets) is = let same : reply_with id a octets ≡ reply = cc (is) in ap (λ (r : Reply). r.id) (sym same)
by_body id a reply (Err fault) is = absurd (cc (is))

pub id_of_reply : (id : ℕ) (a : Answer) (reply : Reply) → reply_of id a ≡ Ok reply → reply.id ≡ id
unfolding reply_of
id_of_reply id a reply is = by_body id a reply (answer_body a) is

pub refused_is : {S : Type 0} (finds : S → ObjectKey → Bool → S → Type 0) (answers : S → Called → Answer → S → Type 0)
    (s : S) (r : Request) (fault : CallFault) (reply : Reply) → ¬ HasNoKey r.target → (fault ≡ faults.Memory) ⊎ Refuses fault r
    → is_memory fault ≡ false → reply_of r.id (without_step (exception_of fault)) ≡ Ok reply → IsReply finds answers s r reply s
refused_is finds answers s r fault reply keyed (inl memory) other reply_is = absurd (cc (ap is_memory memory, other))
refused_is finds answers s r fault reply keyed (inr cause) other reply_is =
    inl (inr (record { keyed = keyed; fault = fault; cause = cause; reply_is = reply_is }), refl)
