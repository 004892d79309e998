use Rattle.std.proofs.Common.{refl}
use Rattle.std.proofs.lemmas.Result.{err_from_is_err_and}
use Rattle.ots_calls.specs.Reading.{call_at}
use Rattle.ots_calls.proofs.Frugal.{boolean_frugal, fails_with, memory_told, string_frugal, ulong_frugal, ulonglong_frugal}
use Rattle.ots_calls.proofs.reading.read_arguments.Goals as goal

pub returns-in_err-time_out-in-Create-clause-exact : goal.returns-in_err-time_out-in-Create-clause-exact
unfolding call_at
returns-in_err-time_out-in-Create-clause-exact c =
    let p = err_from_is_err_and c.from_residual.result c.from_residual.ensures.1 in
    rw (p.1, p.2, c.in-Create.is) (fails_with _ _ (rw c.in_err-time_out-in-Create.ensures.exact.0 refl))

pub returns-in_err-time_out-in-Create-clause-memory : goal.returns-in_err-time_out-in-Create-clause-memory
returns-in_err-time_out-in-Create-clause-memory c =
    let p = err_from_is_err_and c.from_residual.result c.from_residual.ensures.1 in
    rw (p.1, p.2) (λ e. absurd (ulong_frugal _ _ c.in_err-time_out-in-Create.ensures.exact.0 (memory_told _ e)))

pub returns-in_err-report_heuristics-in-CommitTransaction-clause-exact : goal.returns-in_err-report_heuristics-in-CommitTransaction-clause-exact
unfolding call_at
returns-in_err-report_heuristics-in-CommitTransaction-clause-exact c =
    let p = err_from_is_err_and c.from_residual-in_err-report_heuristics-in-CommitTransaction.result c.from_residual-in_err-report_heuristics-in-CommitTransaction.ensures.1 in
    rw (p.1, p.2, c.in-CommitTransaction.is) (fails_with _ _ (rw c.in_err-report_heuristics-in-CommitTransaction.ensures.exact.0 refl))

pub returns-in_err-report_heuristics-in-CommitTransaction-clause-memory : goal.returns-in_err-report_heuristics-in-CommitTransaction-clause-memory
returns-in_err-report_heuristics-in-CommitTransaction-clause-memory c =
    let p = err_from_is_err_and c.from_residual-in_err-report_heuristics-in-CommitTransaction.result c.from_residual-in_err-report_heuristics-in-CommitTransaction.ensures.1 in
    rw (p.1, p.2) (λ e. absurd (boolean_frugal _ _ c.in_err-report_heuristics-in-CommitTransaction.ensures.exact.0 (memory_told _ e)))

pub returns-in_err-cell-in-Put-clause-exact : goal.returns-in_err-cell-in-Put-clause-exact
unfolding call_at
returns-in_err-cell-in-Put-clause-exact c =
    let p = err_from_is_err_and c.from_residual-in_err-cell-in-Put.result c.from_residual-in_err-cell-in-Put.ensures.1 in
    rw (p.1, p.2, c.in-Put.is) (fails_with _ _ (rw c.in_err-cell-in-Put.ensures.exact.0 refl))

pub returns-in_err-cell-in-Put-clause-memory : goal.returns-in_err-cell-in-Put-clause-memory
returns-in_err-cell-in-Put-clause-memory c =
    let p = err_from_is_err_and c.from_residual-in_err-cell-in-Put.result c.from_residual-in_err-cell-in-Put.ensures.1 in
    rw (p.1, p.2) (λ e. absurd (ulonglong_frugal _ _ c.in_err-cell-in-Put.ensures.exact.0 (memory_told _ e)))

pub returns-in_err-value-in-Put-clause-exact : goal.returns-in_err-value-in-Put-clause-exact
unfolding call_at
returns-in_err-value-in-Put-clause-exact c =
    let p = err_from_is_err_and c.from_residual-in_err-value-in-Put.result c.from_residual-in_err-value-in-Put.ensures.1 in
    rw (p.1, p.2, c.in-Put.is) (fails_with _ _ (rw (c.in_ok-cell-in-Put.ensures.exact, c.in_err-value-in-Put.ensures.exact.0) refl))

pub returns-in_err-value-in-Put-clause-memory : goal.returns-in_err-value-in-Put-clause-memory
returns-in_err-value-in-Put-clause-memory c =
    let p = err_from_is_err_and c.from_residual-in_err-value-in-Put.result c.from_residual-in_err-value-in-Put.ensures.1 in
    rw (p.1, p.2) (λ e. absurd (ulonglong_frugal _ _ c.in_err-value-in-Put.ensures.exact.0 (memory_told _ e)))

pub returns-in_err-cell-in-Get-clause-exact : goal.returns-in_err-cell-in-Get-clause-exact
unfolding call_at
returns-in_err-cell-in-Get-clause-exact c =
    let p = err_from_is_err_and c.from_residual-in_err-cell-in-Get.result c.from_residual-in_err-cell-in-Get.ensures.1 in
    rw (p.1, p.2, c.in-Get.is) (fails_with _ _ (rw c.in_err-cell-in-Get.ensures.exact.0 refl))

pub returns-in_err-cell-in-Get-clause-memory : goal.returns-in_err-cell-in-Get-clause-memory
returns-in_err-cell-in-Get-clause-memory c =
    let p = err_from_is_err_and c.from_residual-in_err-cell-in-Get.result c.from_residual-in_err-cell-in-Get.ensures.1 in
    rw (p.1, p.2) (λ e. absurd (ulonglong_frugal _ _ c.in_err-cell-in-Get.ensures.exact.0 (memory_told _ e)))

pub returns-in_err-string-in-IsA-clause-exact : goal.returns-in_err-string-in-IsA-clause-exact
unfolding call_at
returns-in_err-string-in-IsA-clause-exact c =
    let p = err_from_is_err_and c.from_residual-in_err-string-in-IsA.result c.from_residual-in_err-string-in-IsA.ensures.1 in
    rw (p.1, p.2, c.in-IsA.is) (fails_with _ _ (rw c.in_err-string-in-IsA.ensures.exact.0 refl))

pub returns-in_err-string-in-IsA-clause-memory : goal.returns-in_err-string-in-IsA-clause-memory
returns-in_err-string-in-IsA-clause-memory c =
    let p = err_from_is_err_and c.from_residual-in_err-string-in-IsA.result c.from_residual-in_err-string-in-IsA.ensures.1 in
    rw (p.1, p.2) (λ e. absurd (string_frugal _ _ c.in_err-string-in-IsA.ensures.exact.0 (memory_told _ e)))
