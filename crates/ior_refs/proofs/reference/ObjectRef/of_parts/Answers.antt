use Rattle.std.proofs.Common.{◌≡◌, ◌∙◌, subst, refl}
use Rattle.std.proofs.lemmas.Result.{err_from_is_err_and}
use Rattle.cdr_values.specs.Tagged.{reference_values}
use Rattle.ior_refs.specs.Reference.{Reference, AreOctets, canonical_octets}
use Rattle.ior_refs.proofs.Short.{at_start, stopped, wrote, written_is, short, kept_fails}
use Rattle.ior_refs.proofs.reference.ObjectRef.of_parts.Goals as goal

pub returns-in-Err : goal.returns-in-Err
returns-in-Err c =
    let h = rw (c.bytes.ensures.same, c.as_slice.ensures.value, c.new-writer.ensures.stands) at c.in-Err.ensures in
    rw c.too_long.ensures (stopped c.args.place (c.args.type_id, c.args.profiles.items) c.in-Err.fault c.write_parts.new.writer c.requires h)

pub returns-in_err-octets : goal.returns-in_err-octets
returns-in_err-octets c =
    let reference : Reference = (c.args.type_id, c.args.profiles.items) in
    let h = rw (c.bytes.ensures.same, c.as_slice.ensures.value, c.new-writer.ensures.stands) at c.write_parts.ensures in
    let w = wrote (reference_values reference) c.write_parts.result at_start c.write_parts.new.writer c.in_default.not-Err h in
    let is : c.bytes-3.result.now ≡ canonical_octets reference = c.bytes-3.ensures.same ∙ c.finish.ensures.octets ∙ written_is reference c.write_parts.new.writer w in
    let p = err_from_is_err_and c.from_residual.result c.from_residual.ensures.1 in
    rw (p.1, p.2) (kept_fails c.args.place reference c.in_err-octets.field-0.0 c.bytes-3.result.now is c.in_err-octets.ensures.long)

pub invariant_of-result : goal.invariant_of-result
invariant_of-result c =
    let reference : Reference = (c.args.type_id, c.args.profiles.items) in
    let h = rw (c.bytes.ensures.same, c.as_slice.ensures.value, c.new-writer.ensures.stands) at c.write_parts.ensures in
    let w = wrote (reference_values reference) c.write_parts.result at_start c.write_parts.new.writer c.in_default.not-Err h in
    let is : c.bytes-3.result.now ≡ canonical_octets reference = c.bytes-3.ensures.same ∙ c.finish.ensures.octets ∙ written_is reference c.write_parts.new.writer w in
    let few = c.in_ok-octets.ensures.short refl in
    (record { fits = c.requires; short = rw is at few; octets = subst AreOctets is c.kept.ensures.octets }, c.in_ok-octets.ensures.copy ∙ is)

pub returns : goal.returns
returns c =
    let reference : Reference = (c.args.type_id, c.args.profiles.items) in
    let h = rw (c.bytes.ensures.same, c.as_slice.ensures.value, c.new-writer.ensures.stands) at c.write_parts.ensures in
    let w = wrote (reference_values reference) c.write_parts.result at_start c.write_parts.new.writer c.in_default.not-Err h in
    let is : c.bytes-3.result.now ≡ canonical_octets reference = c.bytes-3.ensures.same ∙ c.finish.ensures.octets ∙ written_is reference c.write_parts.new.writer w in
    let few = c.in_ok-octets.ensures.short refl in
    short c.args.place reference (rw is at few)
