use Rattle.std.proofs.lemmas.Result.{err_from_is_err_and}
use Rattle.giop_frames.proofs.Near.{key_stops}
use Rattle.giop_frames.proofs.Walking.{key_told}
use Rattle.giop_frames.proofs.walk.pass_key.Goals as goal

pub returns : goal.returns
returns c = key_told c.reading_is_exact.ensures c.args.found.now c.args.reader.now c.read_octets.new.reader c.in_ok-key.key c.in_ok-key.ensures c.if-key-gt-KEY_LIMIT.false

pub returns-in_err-key : goal.returns-in_err-key
returns-in_err-key c =
    let p = err_from_is_err_and c.from_residual.result c.from_residual.ensures.1 in
    rw (p.1, p.2) (key_stops c.args.found.now c.args.reader.now c.read_octets.new.reader c.in_err-key.field-0.0 c.in_err-key.ensures)
