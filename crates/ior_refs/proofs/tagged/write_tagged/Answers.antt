use Rattle.std.proofs.Common.{[], ◌∷◌}
use Rattle.std.proofs.lemmas.Result.{err_from_is_err_and}
use Rattle.cdr_values.specs.Value.{ULong, OctetSequence}
use Rattle.ior_refs.proofs.Values.{stops_one, then_value, wrote_one}
use Rattle.ior_refs.proofs.tagged.write_tagged.Goals as goal

pub returns-in_err-ulong : goal.returns-in_err-ulong
returns-in_err-ulong c =
    let p = err_from_is_err_and c.from_residual.result c.from_residual.ensures.1 in
    let x = c.args.tagged.now in
    rw (p.1, p.2) (stops_one (ULong x.0) (OctetSequence x.1 ∷ []) c.in_err-ulong.field-0.0 c.args.writer.now c.ulong.new.self c.in_err-ulong.ensures.refused c.in_err-ulong.ensures.err)

pub returns : goal.returns
returns c =
    let x = c.args.tagged.now in
    let octets = rw c.bytes.ensures.same at c.octets.ensures in
    let tag = wrote_one (ULong x.0) c.args.writer.now c.ulong.new.self c.in_ok-ulong.ensures.ok c.in_ok-ulong.ensures.fits in
    then_value (ULong x.0 ∷ []) (OctetSequence x.1) c.octets.result c.args.writer.now c.ulong.new.self c.octets.new.self tag octets
