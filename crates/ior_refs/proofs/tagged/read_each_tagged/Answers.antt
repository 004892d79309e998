use Rattle.std.proofs.Common.{[], ◌∷◌, length-append, arith}
use Rattle.cdr_values.specs.Sequence.{each_at}
use Rattle.cdr_values.specs.Tagged.{tagged_at}
use Rattle.ior_refs.specs.Fault.{fault_of}
use Rattle.ior_refs.proofs.Sequences.{all_fit_more}
use Rattle.ior_refs.proofs.tagged.read_each_tagged.Goals as goal

pub loop-preserved : goal.loop-preserved
loop-preserved c =
    let x = c.in_ok-read_tagged.field-0 in
    let law = c.elements_are_read_in_a_loop.ensures in
    let items = c.in_ok-push.ensures.items in
    record {
      exact = rw items (law.goes_on (tagged_at fault_of) c.args.count c.loop.counter c.loop.all.items x c.loop.reader c.read_tagged.new.reader (each_at (tagged_at fault_of) c.args.count c.args.reader.now) c.loop-test.true c.in_ok-read_tagged.ensures.exact c.loop.invariant.exact);
      fits = rw items (all_fit_more c.loop.all.items x c.loop.invariant.fits c.in_ok-read_tagged.ensures.fits);
      count = rw items (omega (arith, length-append c.loop.all.items (x ∷ []), c.loop.invariant.count));
    }
