use Rattle.std.proofs.lemmas.Result.{err_from_is_err_and}
use Rattle.giop_frames.proofs.Near.{type_id_stops}
use Rattle.giop_frames.proofs.Walking.{type_id_passed}
use Rattle.giop_frames.proofs.walk.pass_type_id.Goals as goal

pub returns : goal.returns
returns c found = type_id_passed c.reading_is_exact.ensures found c.args.reader.now c.string.new.self c.in_ok-string.field-0.now c.in_ok-string.ensures.exact

pub returns-in_err-string : goal.returns-in_err-string
returns-in_err-string c found =
    let p = err_from_is_err_and c.from_residual.result c.from_residual.ensures.1 in
    rw (p.1, p.2) (type_id_stops found c.args.reader.now c.string.new.self c.in_err-string.field-0.0 c.in_err-string.ensures.exact.0)
