use Rattle.std.proofs.lemmas.Result.{err_from_is_err_and}
use Rattle.cdr_values.specs.Sequence.{each_at}
use Rattle.cdr_values.specs.Tagged.{tagged_at}
use Rattle.ior_refs.specs.Fault.{fault_of}
use Rattle.ior_refs.specs.Iiop.{passed}
use Rattle.ior_refs.proofs.Faults.{fails_on}
use Rattle.ior_refs.proofs.Passing.{passed_on, passed_fault, all_passed}
use Rattle.ior_refs.proofs.tagged.skip_each_tagged.Goals as goal

pub returns-in_err-skip_tagged : goal.returns-in_err-skip_tagged
returns-in_err-skip_tagged c =
    let p = err_from_is_err_and c.from_residual.result c.from_residual.ensures.1 in
    let fault = c.in_err-skip_tagged.field-0.0 in
    let whole = passed (each_at (tagged_at fault_of) c.args.count c.args.reader.now) in
    rw (p.1, p.2) (fails_on fault (passed (tagged_at fault_of c.loop.reader)) whole
    (λ e. passed_fault (tagged_at fault_of) c.args.count c.loop.counter c.loop.reader fault whole c.loop-test.true e c.loop.invariant)
    c.in_err-skip_tagged.ensures)

pub loop-preserved : goal.loop-preserved
loop-preserved c =
    passed_on (tagged_at fault_of) c.args.count c.loop.counter c.loop.reader c.skip_tagged.new.reader
    (passed (each_at (tagged_at fault_of) c.args.count c.args.reader.now)) c.loop-test.true
    c.in_ok-skip_tagged.ensures c.loop.invariant

pub returns : goal.returns
returns c =
    all_passed (tagged_at fault_of) c.args.count c.loop.counter c.loop.reader
    (passed (each_at (tagged_at fault_of) c.args.count c.args.reader.now)) c.loop-test.false c.loop.invariant
