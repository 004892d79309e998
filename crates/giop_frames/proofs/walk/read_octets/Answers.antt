use Rattle.std.proofs.Common.{refl, arith}
use Rattle.giop_frames.proofs.Walking.{octets_found}
use Rattle.giop_frames.proofs.walk.read_octets.Goals as goal

pub returns : goal.returns
returns c = octets_found c.reading_is_exact.ensures c.args.reader.now c.octets.new.self c.in_ok-length.field-0.now _ c.in_ok-length.ensures.exact refl (omega (arith, c.saturating_sub.ensures, c.place.ensures))
