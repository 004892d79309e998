use Rattle.std.proofs.Common.{◌≡◌, find, drop}
use Rattle.std.specs.Str.{bytes_eq}
use Rattle.ots_calls.specs.Exception.{user_exceptions, user_id}
use Rattle.ots_calls.specs.declared.exception.UserException.{UserException}
use Rattle.ots_calls.proofs.exception.UserException.named.Given as goal

abbrev pub invariant-loop-one : goal.invariant-loop-one
invariant-loop-one l =
    find (λ (one : UserException). bytes_eq l.id (user_id one)) (drop l.one-index user_exceptions)
    ≡ find (λ (one : UserException). bytes_eq l.id (user_id one)) user_exceptions
