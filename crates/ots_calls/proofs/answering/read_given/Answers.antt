use Rattle.std.proofs.Common.{refl}
use Rattle.std.proofs.lemmas.Result.{err_from_is_err_and}
use Rattle.ots_calls.specs.Answering.{given_at}
use Rattle.ots_calls.proofs.Frugal.{boolean_frugal, fails_with, memory_told, string_frugal, ulong_frugal}
use Rattle.ots_calls.proofs.answering.read_given.Goals as goal

pub returns-in_err-flag-in-Flag-clause-exact : goal.returns-in_err-flag-in-Flag-clause-exact
unfolding given_at
returns-in_err-flag-in-Flag-clause-exact c =
    let p = err_from_is_err_and c.from_residual.result c.from_residual.ensures.1 in
    rw (p.1, p.2, c.in-Flag.is) (fails_with _ _ (rw c.in_err-flag-in-Flag.ensures.exact.0 refl))

pub returns-in_err-flag-in-Flag-clause-memory : goal.returns-in_err-flag-in-Flag-clause-memory
returns-in_err-flag-in-Flag-clause-memory c =
    let p = err_from_is_err_and c.from_residual.result c.from_residual.ensures.1 in
    rw (p.1, p.2) (λ e. absurd (boolean_frugal _ _ c.in_err-flag-in-Flag.ensures.exact.0 (memory_told _ e)))

pub returns-in_err-number-in-Number-clause-exact : goal.returns-in_err-number-in-Number-clause-exact
unfolding given_at
returns-in_err-number-in-Number-clause-exact c =
    let p = err_from_is_err_and c.from_residual-in_err-number-in-Number.result c.from_residual-in_err-number-in-Number.ensures.1 in
    rw (p.1, p.2, c.in-Number.is) (fails_with _ _ (rw c.in_err-number-in-Number.ensures.exact.0 refl))

pub returns-in_err-number-in-Number-clause-memory : goal.returns-in_err-number-in-Number-clause-memory
returns-in_err-number-in-Number-clause-memory c =
    let p = err_from_is_err_and c.from_residual-in_err-number-in-Number.result c.from_residual-in_err-number-in-Number.ensures.1 in
    rw (p.1, p.2) (λ e. absurd (ulong_frugal _ _ c.in_err-number-in-Number.ensures.exact.0 (memory_told _ e)))

pub returns-in_err-string-in-Word-clause-exact : goal.returns-in_err-string-in-Word-clause-exact
unfolding given_at
returns-in_err-string-in-Word-clause-exact c =
    let p = err_from_is_err_and c.from_residual-in_err-string-in-Word.result c.from_residual-in_err-string-in-Word.ensures.1 in
    rw (p.1, p.2, c.in-Word.is) (fails_with _ _ (rw c.in_err-string-in-Word.ensures.exact.0 refl))

pub returns-in_err-string-in-Word-clause-memory : goal.returns-in_err-string-in-Word-clause-memory
returns-in_err-string-in-Word-clause-memory c =
    let p = err_from_is_err_and c.from_residual-in_err-string-in-Word.result c.from_residual-in_err-string-in-Word.ensures.1 in
    rw (p.1, p.2) (λ e. absurd (string_frugal _ _ c.in_err-string-in-Word.ensures.exact.0 (memory_told _ e)))
