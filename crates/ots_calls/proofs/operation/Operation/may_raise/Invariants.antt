use Rattle.std.proofs.Common.{◌≡◌, drop}
use Rattle.std.specs.List.{list_any}
use Rattle.std.specs.Str.{bytes_eq}
use Rattle.ots_calls.specs.Exception.{user_id}
use Rattle.ots_calls.specs.declared.exception.UserException.{UserException}
use Rattle.ots_calls.proofs.operation.Operation.may_raise.Given as goal

abbrev pub invariant-loop-one : goal.invariant-loop-one
invariant-loop-one l =
    list_any (λ (one : UserException). bytes_eq l.id (user_id one)) (drop l.one-index l.one-items)
    ≡ list_any (λ (one : UserException). bytes_eq l.id (user_id one)) l.one-items
