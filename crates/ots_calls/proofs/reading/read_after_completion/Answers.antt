use Rattle.std.proofs.Common.{refl}
use Rattle.std.proofs.lemmas.Result.{err_from_is_err_and}
use Rattle.ots_calls.specs.Reading.{call_at}
use Rattle.ots_calls.proofs.Frugal.{fails_with, memory_told, ulong_frugal}
use Rattle.ots_calls.proofs.reading.read_after_completion.Goals as goal

pub returns-in_err-number-clause-exact : goal.returns-in_err-number-clause-exact
unfolding call_at
returns-in_err-number-clause-exact c =
    let p = err_from_is_err_and c.from_residual.result c.from_residual.ensures.1 in
    rw (p.1, p.2) (fails_with _ _ (rw c.in_err-number.ensures.exact.0 refl))

pub returns-in_err-number-clause-memory : goal.returns-in_err-number-clause-memory
returns-in_err-number-clause-memory c =
    let p = err_from_is_err_and c.from_residual.result c.from_residual.ensures.1 in
    rw (p.1, p.2) (λ e. absurd (ulong_frugal _ _ c.in_err-number.ensures.exact.0 (memory_told _ e)))
