use Rattle.std.proofs.lemmas.Result.{err_from_is_err_and}
use Rattle.std.proofs.Common.{ap}
use Rattle.ior_refs.specs.Iiop.{passed}
use Rattle.ior_refs.specs.Reading.{count_at, each_tagged_at}
use Rattle.ior_refs.proofs.Counting.{counted, not_counted}
use Rattle.ior_refs.proofs.Faults.{fails_on}
use Rattle.ior_refs.proofs.tagged.skip_all_tagged.Goals as goal

pub returns-in_err-count : goal.returns-in_err-count
returns-in_err-count c =
    let p = err_from_is_err_and c.from_residual.result c.from_residual.ensures.1 in
    let r = c.args.reader.now in
    let fault = c.in_err-count.field-0.0 in
    rw (p.1, p.2) (fails_on fault (count_at r) (passed (each_tagged_at r)) (λ e. ap passed (not_counted r fault e)) c.in_err-count.ensures)

pub returns : goal.returns
returns c =
    rw (counted c.args.reader.now c.read_count.new.reader c.in_ok-count.count c.in_ok-count.ensures) c.skip_each_tagged.ensures
