-- A call goes to an object of a transaction, or it doesn't.
use Rattle.std.proofs.Common.{◌≡◌, refl, subst, ℕ, true, false}
use Rattle.ots_calls.specs.declared.answer.Answer.{Answer}
use Rattle.ots_calls.specs.declared.call.Called.{Called}
use Rattle.ots_server.specs.Answers.{AnswersAlone, AnswersBy, AnswersCall, IsStepped, is_alone}
use Rattle.ots_server.specs.Site.{Site}
use Rattle.outward_calls.specs.Moment.{LinkMoment}

module _ {D : Type 0} (s : Site D) (now : ℕ) (called : Called) where
  pub alone_is : (m : LinkMoment) (a : Answer) → true ≡ is_alone called.call → AnswersAlone D s.room now called.key called.call a
      → AnswersCall s now called m m a
  alone_is m a alone answers = subst (λ b. AnswersBy b s now called m m a) alone (record { answers = answers; unsaid = refl })

  pub step_is : (before after : LinkMoment) (a : Answer) → false ≡ is_alone called.call → IsStepped s now called before after a
      → AnswersCall s now called before after a
  step_is before after a alone stepped = subst (λ b. AnswersBy b s now called before after a) alone stepped
