use Rattle.std.proofs.lemmas.Result.{err_from_is_err_and}
use Rattle.giop_frames.proofs.Near.{count_stops}
use Rattle.giop_frames.proofs.Walking.{count_passed}
use Rattle.giop_frames.proofs.walk.pass_count.Goals as goal

pub returns : goal.returns
returns c found = count_passed c.reading_is_exact.ensures found c.args.reader.now c.ulong.new.self c.in_ok-count.count c.in_ok-count.ensures.exact c.if-count-gt-PROFILE_LIMIT.false

pub returns-in_err-count : goal.returns-in_err-count
returns-in_err-count c found =
    let p = err_from_is_err_and c.from_residual.result c.from_residual.ensures.1 in
    rw (p.1, p.2) (count_stops found c.args.reader.now c.ulong.new.self c.in_err-count.field-0.0 c.in_err-count.ensures.exact.0)
