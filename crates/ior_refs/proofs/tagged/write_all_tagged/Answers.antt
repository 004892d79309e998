use Rattle.std.proofs.Common.{[], ◌∷◌, length}
use Rattle.std.specs.List.{flat_map}
use Rattle.std.proofs.lemmas.Result.{err_from_is_err_and}
use Rattle.cdr_values.specs.Value.{ULong}
use Rattle.cdr_values.specs.Tagged.{tagged_values}
use Rattle.ior_refs.proofs.Values.{stops_one, then_all, wrote_one}
use Rattle.ior_refs.proofs.tagged.write_all_tagged.Goals as goal

pub returns-in_err-ulong : goal.returns-in_err-ulong
returns-in_err-ulong c =
    let p = err_from_is_err_and c.from_residual.result c.from_residual.ensures.1 in
    let all = c.args.all.now in
    rw (p.1, p.2) (stops_one (ULong (length all)) (flat_map tagged_values all) c.in_err-ulong.field-0.0 c.args.writer.now c.ulong.new.self c.in_err-ulong.ensures.refused c.in_err-ulong.ensures.err)

pub returns : goal.returns
returns c =
    let all = c.args.all.now in
    let count = wrote_one (ULong (length all)) c.args.writer.now c.ulong.new.self c.in_ok-ulong.ensures.ok c.in_ok-ulong.ensures.fits in
    then_all (ULong (length all) ∷ []) (flat_map tagged_values all) c.write_each_tagged.result c.args.writer.now c.ulong.new.self c.write_each_tagged.new.writer count c.write_each_tagged.ensures
