use Rattle.std.proofs.lemmas.Result.{err_from_is_err_and}
use Rattle.cdr_values.specs.Sequence.{each_at}
use Rattle.ots_context.specs.Reading.{identity_at}
use Rattle.ots_context.proofs.Faults.{fails_on}
use Rattle.ots_context.proofs.decoding.read_each.Goals as goal

pub returns-in_err-read_identity : goal.returns-in_err-read_identity
returns-in_err-read_identity c =
    let p = err_from_is_err_and c.from_residual.result c.from_residual.ensures.1 in
    let fault = c.in_err-read_identity.field-0.0 in
    let whole = each_at identity_at c.args.count c.args.reader.now in
    rw (p.1, p.2) (fails_on fault (identity_at c.loop.reader) whole (λ e. c.elements_are_read_in_a_loop.ensures.fails identity_at c.args.count c.loop.counter c.loop.parents.items fault c.loop.reader whole c.loop-test.true e c.loop.invariant) c.in_err-read_identity.ensures)

pub loop-preserved : goal.loop-preserved
loop-preserved c =
    rw c.in_ok-push.ensures.items (c.elements_are_read_in_a_loop.ensures.goes_on identity_at c.args.count c.loop.counter c.loop.parents.items c.in_ok-read_identity.field-0 c.loop.reader c.read_identity.new.reader (each_at identity_at c.args.count c.args.reader.now) c.loop-test.true c.in_ok-read_identity.ensures c.loop.invariant)
