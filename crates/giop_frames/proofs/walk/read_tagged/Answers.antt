use Rattle.std.proofs.lemmas.Result.{err_from_is_err_and}
use Rattle.giop_frames.proofs.Near.{tag_stops, tagged_stop}
use Rattle.giop_frames.proofs.Walking.{tagged_found}
use Rattle.giop_frames.proofs.walk.read_tagged.Goals as goal

pub returns : goal.returns
returns c = tagged_found c.reading_is_exact.ensures c.args.reader.now c.ulong.new.self c.read_octets.new.reader c.in_ok-tag.tag c.in_ok-octets.octets c.in_ok-tag.ensures.exact c.in_ok-octets.ensures

pub returns-in_err-tag : goal.returns-in_err-tag
returns-in_err-tag c =
    let p = err_from_is_err_and c.from_residual.result c.from_residual.ensures.1 in
    rw (p.1, p.2) (tag_stops c.args.reader.now c.ulong.new.self c.in_err-tag.field-0.0 c.in_err-tag.ensures.exact.0)

pub returns-in_err-octets : goal.returns-in_err-octets
returns-in_err-octets c =
    let p = err_from_is_err_and c.from_residual-in_err-octets.result c.from_residual-in_err-octets.ensures.1 in
    rw (p.1, p.2) (tagged_stop c.reading_is_exact.ensures c.args.reader.now c.ulong.new.self c.read_octets.new.reader c.in_ok-tag.tag c.in_err-octets.field-0.0 c.in_ok-tag.ensures.exact c.in_err-octets.ensures)
