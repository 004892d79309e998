use Rattle.std.proofs.Common.{refl}
use Rattle.std.proofs.lemmas.Result.{err_from_is_err_and}
use Rattle.ots_calls.specs.Answering.{raised_at}
use Rattle.ots_calls.proofs.Frugal.{fails_with, memory_told, string_frugal}
use Rattle.ots_calls.proofs.answering.read_raised.Goals as goal

pub returns-in_err-id-clause-exact : goal.returns-in_err-id-clause-exact
unfolding raised_at
returns-in_err-id-clause-exact c =
    let p = err_from_is_err_and c.from_residual.result c.from_residual.ensures.1 in
    rw (p.1, p.2) (fails_with _ _ (rw c.in_err-id.ensures.exact.0 refl))

pub returns-in_err-id-clause-memory : goal.returns-in_err-id-clause-memory
returns-in_err-id-clause-memory c =
    let p = err_from_is_err_and c.from_residual.result c.from_residual.ensures.1 in
    rw (p.1, p.2) (λ e. absurd (string_frugal _ _ c.in_err-id.ensures.exact.0 (memory_told _ e)))
