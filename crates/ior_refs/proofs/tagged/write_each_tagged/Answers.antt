use Rattle.std.proofs.lemmas.Result.{err_from_is_err_and}
use Rattle.ior_refs.proofs.Sequences.{one_fits, goes_on, stops}
use Rattle.ior_refs.proofs.tagged.write_each_tagged.Goals as goal

pub write_tagged-requires : goal.write_tagged-requires
write_tagged-requires c =
    one_fits c.args.all.now c.loop-tagged.tagged-index c.tagged-item.result c.loop-tagged-test.true c.tagged-item.is c.requires

pub returns-in_err-write_tagged : goal.returns-in_err-write_tagged
returns-in_err-write_tagged c =
    let p = err_from_is_err_and c.from_residual.result c.from_residual.ensures.1 in
    rw (p.1, p.2) (stops c.in_err-write_tagged.field-0.0 c.args.writer.now c.loop-tagged.writer c.write_tagged.new.writer c.args.all.now c.loop-tagged.tagged-index c.tagged-item.result c.loop-tagged-test.true c.tagged-item.is c.loop-tagged.invariant c.in_err-write_tagged.ensures)

pub loop-tagged-preserved : goal.loop-tagged-preserved
loop-tagged-preserved c =
    goes_on c.args.writer.now c.loop-tagged.writer c.write_tagged.new.writer c.args.all.now c.loop-tagged.tagged-index c.tagged-item.result c.loop-tagged-test.true c.tagged-item.is c.loop-tagged.invariant c.in_ok-write_tagged.ensures
