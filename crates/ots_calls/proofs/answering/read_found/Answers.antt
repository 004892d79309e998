use Rattle.std.proofs.Common.{refl}
use Rattle.std.proofs.lemmas.Result.{err_from_is_err_and}
use Rattle.ots_calls.specs.Answering.{given_at}
use Rattle.ots_calls.proofs.Frugal.{boolean_frugal, fails_with, memory_told, ulonglong_frugal}
use Rattle.ots_calls.proofs.answering.read_found.Goals as goal

pub returns-in_err-is_there-clause-exact : goal.returns-in_err-is_there-clause-exact
unfolding given_at
returns-in_err-is_there-clause-exact c =
    let p = err_from_is_err_and c.from_residual.result c.from_residual.ensures.1 in
    rw (p.1, p.2) (fails_with _ _ (rw c.in_err-is_there.ensures.exact.0 refl))

pub returns-in_err-is_there-clause-memory : goal.returns-in_err-is_there-clause-memory
returns-in_err-is_there-clause-memory c =
    let p = err_from_is_err_and c.from_residual.result c.from_residual.ensures.1 in
    rw (p.1, p.2) (λ e. absurd (boolean_frugal _ _ c.in_err-is_there.ensures.exact.0 (memory_told _ e)))

pub returns-in_err-value-clause-exact : goal.returns-in_err-value-clause-exact
unfolding given_at
returns-in_err-value-clause-exact c =
    let p = err_from_is_err_and c.from_residual-in_err-value.result c.from_residual-in_err-value.ensures.1 in
    rw (p.1, p.2) (fails_with _ _ (rw (c.in_ok-is_there.ensures.exact, c.in_err-value.ensures.exact.0) refl))

pub returns-in_err-value-clause-memory : goal.returns-in_err-value-clause-memory
returns-in_err-value-clause-memory c =
    let p = err_from_is_err_and c.from_residual-in_err-value.result c.from_residual-in_err-value.ensures.1 in
    rw (p.1, p.2) (λ e. absurd (ulonglong_frugal _ _ c.in_err-value.ensures.exact.0 (memory_told _ e)))
