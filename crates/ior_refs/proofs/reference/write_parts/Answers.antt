use Rattle.std.proofs.Common.{[], ◌∷◌}
use Rattle.std.proofs.lemmas.Result.{err_from_is_err_and}
use Rattle.cdr_values.specs.Value.{Text}
use Rattle.cdr_values.specs.Sequence.{sequence_values}
use Rattle.cdr_values.specs.Tagged.{tagged_values}
use Rattle.ior_refs.proofs.Values.{stops_one, then_all, wrote_one}
use Rattle.ior_refs.proofs.reference.write_parts.Goals as goal

pub returns-in_err-string : goal.returns-in_err-string
returns-in_err-string c =
    let p = err_from_is_err_and c.from_residual.result c.from_residual.ensures.1 in
    rw (p.1, p.2) (stops_one (Text c.args.type_id.now) (sequence_values tagged_values c.args.profiles.now) c.in_err-string.field-0.0 c.args.writer.now c.string.new.self c.in_err-string.ensures.refused c.in_err-string.ensures.err)

pub returns : goal.returns
returns c =
    let text = wrote_one (Text c.args.type_id.now) c.args.writer.now c.string.new.self c.in_ok-string.ensures.ok c.in_ok-string.ensures.fits in
    then_all (Text c.args.type_id.now ∷ []) (sequence_values tagged_values c.args.profiles.now) c.write_all_tagged.result c.args.writer.now c.string.new.self c.write_all_tagged.new.writer text c.write_all_tagged.ensures
