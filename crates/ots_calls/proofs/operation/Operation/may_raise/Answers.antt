use Rattle.std.proofs.Common.{sym, ◌∙◌}
use Rattle.std.specs.Str.{bytes_eq}
use Rattle.ots_calls.specs.Exception.{user_id}
use Rattle.ots_calls.specs.declared.exception.UserException.{UserException}
use Rattle.ots_calls.proofs.Finding.{none_so_far}
use Rattle.ots_calls.proofs.operation.Operation.may_raise.Goals as goal

pub loop-one-preserved : goal.loop-one-preserved
loop-one-preserved c =
    none_so_far (λ (one : UserException). bytes_eq c.id-id.result.now (user_id one)) c.row.result.now.raises.now c.loop-one.one-index _ c.loop-one.invariant c.loop-one-test.true (sym c.has_id.ensures ∙ c.if-has_id.false)
