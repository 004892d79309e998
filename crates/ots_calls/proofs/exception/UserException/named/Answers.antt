use Rattle.std.proofs.Common.{sym, ◌∙◌}
use Rattle.std.specs.Str.{bytes_eq}
use Rattle.ots_calls.specs.Exception.{user_exceptions, user_id}
use Rattle.ots_calls.specs.declared.exception.UserException.{UserException}
use Rattle.ots_calls.proofs.Finding.{passed_by}
use Rattle.ots_calls.proofs.exception.UserException.named.Goals as goal

pub loop-one-preserved : goal.loop-one-preserved
loop-one-preserved c =
    passed_by (λ (one : UserException). bytes_eq c.args.id.now (user_id one)) user_exceptions c.loop-one.one-index _ c.loop-one.invariant c.loop-one-test.true (sym c.has_id.ensures ∙ c.if-has_id.false)
