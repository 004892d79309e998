use Rattle.std.proofs.lemmas.Result.{err_from_is_err_and}
use Rattle.giop_frames.proofs.Near.{target_stops}
use Rattle.giop_frames.proofs.Walking.{key_begun, profile_begun, reference_begun}
use Rattle.giop_frames.proofs.walk.begin_target.Goals as goal

pub returns-in-0 : goal.returns-in-0
returns-in-0 c found = key_begun c.reading_is_exact.ensures found c.args.reader.now c.ushort.new.self (rw c.in-0.is at c.in_ok-ushort.ensures.exact)

pub returns-in-1 : goal.returns-in-1
returns-in-1 c found = profile_begun c.reading_is_exact.ensures found c.args.reader.now c.ushort.new.self (rw c.in-1.is at c.in_ok-ushort.ensures.exact)

pub returns-in-2 : goal.returns-in-2
returns-in-2 c found = reference_begun c.reading_is_exact.ensures found c.args.reader.now c.ushort.new.self (rw c.in-2.is at c.in_ok-ushort.ensures.exact)

pub returns-in_err-ushort : goal.returns-in_err-ushort
returns-in_err-ushort c found =
    let p = err_from_is_err_and c.from_residual.result c.from_residual.ensures.1 in
    rw (p.1, p.2) (target_stops found c.args.reader.now c.ushort.new.self c.in_err-ushort.field-0.0 c.in_err-ushort.ensures.exact.0)
