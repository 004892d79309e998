use Rattle.std.proofs.Common.{◌≡◌, find, drop}
use Rattle.std.specs.Str.{bytes_eq}
use Rattle.ots_calls.specs.Exception.{system_exceptions, system_id}
use Rattle.ots_calls.specs.declared.system.SystemException.{SystemException}
use Rattle.ots_calls.proofs.system.SystemException.named.Given as goal

abbrev pub invariant-loop-one : goal.invariant-loop-one
invariant-loop-one l =
    find (λ (one : SystemException). bytes_eq l.id (system_id one)) (drop l.one-index system_exceptions)
    ≡ find (λ (one : SystemException). bytes_eq l.id (system_id one)) system_exceptions
