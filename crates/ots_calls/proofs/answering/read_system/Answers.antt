use Rattle.std.proofs.Common.{◌∙◌, refl, sym}
use Rattle.std.proofs.lemmas.Result.{err_from_is_err_and}
use Rattle.ots_calls.specs.Answering.{system_at}
use Rattle.ots_calls.proofs.Frugal.{fails_with, memory_told, string_frugal, ulong_frugal}
use Rattle.ots_calls.proofs.answering.read_system.Goals as goal

pub returns-in_err-id-clause-exact : goal.returns-in_err-id-clause-exact
unfolding system_at
returns-in_err-id-clause-exact c =
    let p = err_from_is_err_and c.from_residual.result c.from_residual.ensures.1 in
    rw (p.1, p.2) (fails_with _ _ (rw c.in_err-id.ensures.exact.0 refl))

pub returns-in_err-id-clause-memory : goal.returns-in_err-id-clause-memory
returns-in_err-id-clause-memory c =
    let p = err_from_is_err_and c.from_residual.result c.from_residual.ensures.1 in
    rw (p.1, p.2) (λ e. absurd (string_frugal _ _ c.in_err-id.ensures.exact.0 (memory_told _ e)))

pub returns-in_err-minor-clause-exact : goal.returns-in_err-minor-clause-exact
unfolding system_at
returns-in_err-minor-clause-exact c =
    let p = err_from_is_err_and c.from_residual-in_err-minor.result c.from_residual-in_err-minor.ensures.1 in
    rw (p.1, p.2) (fails_with _ _ (rw (c.in_ok-id.ensures.exact, sym c.named.ensures ∙ c.in-Some.is, c.in_err-minor.ensures.exact.0) refl))

pub returns-in_err-minor-clause-memory : goal.returns-in_err-minor-clause-memory
returns-in_err-minor-clause-memory c =
    let p = err_from_is_err_and c.from_residual-in_err-minor.result c.from_residual-in_err-minor.ensures.1 in
    rw (p.1, p.2) (λ e. absurd (ulong_frugal _ _ c.in_err-minor.ensures.exact.0 (memory_told _ e)))

pub returns-in_err-number-clause-exact : goal.returns-in_err-number-clause-exact
unfolding system_at
returns-in_err-number-clause-exact c =
    let p = err_from_is_err_and c.from_residual-in_err-number.result c.from_residual-in_err-number.ensures.1 in
    rw (p.1, p.2) (fails_with _ _ (rw (c.in_ok-id.ensures.exact, sym c.named.ensures ∙ c.in-Some.is, c.in_ok-minor.ensures.exact, c.in_err-number.ensures.exact.0) refl))

pub returns-in_err-number-clause-memory : goal.returns-in_err-number-clause-memory
returns-in_err-number-clause-memory c =
    let p = err_from_is_err_and c.from_residual-in_err-number.result c.from_residual-in_err-number.ensures.1 in
    rw (p.1, p.2) (λ e. absurd (ulong_frugal _ _ c.in_err-number.ensures.exact.0 (memory_told _ e)))
