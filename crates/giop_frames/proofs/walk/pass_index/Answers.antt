use Rattle.std.proofs.lemmas.Result.{err_from_is_err_and}
use Rattle.giop_frames.proofs.Near.{index_stops}
use Rattle.giop_frames.proofs.Walking.{index_passed}
use Rattle.giop_frames.proofs.walk.pass_index.Goals as goal

pub returns : goal.returns
returns c found = index_passed c.reading_is_exact.ensures found c.args.reader.now c.ulong.new.self c.in_ok-ulong.field-0 c.in_ok-ulong.ensures.exact

pub returns-in_err-ulong : goal.returns-in_err-ulong
returns-in_err-ulong c found =
    let p = err_from_is_err_and c.from_residual.result c.from_residual.ensures.1 in
    rw (p.1, p.2) (index_stops found c.args.reader.now c.ulong.new.self c.in_err-ulong.field-0.0 c.in_err-ulong.ensures.exact.0)
