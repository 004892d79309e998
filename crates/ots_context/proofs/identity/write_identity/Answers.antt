use Rattle.std.proofs.Common.{◌≡◌, ◌∙◌, ◌++◌, sym, ap, arith, length}
use Rattle.std.specs.Int.{w32, cast_unsigned}
use Rattle.cdr_values.specs.Tagged.{reference_values}
use Rattle.cdr_values.specs.Values.{with_values}
use Rattle.cdr_values.specs.Writing.{Writing}
use Rattle.ots_context.specs.Identity.{otid_values}
use Rattle.ots_context.proofs.Given.{with_values-append}
use Rattle.ots_context.proofs.Room.{map_ok, reference_room}
use Rattle.ots_context.proofs.identity.write_identity.Goals as goal

pub write_reference-requires-2 : goal.write_reference-requires-2
write_reference-requires-2 c =
    omega (arith, c.requires.room, ap (λ (x : Writing). length x.octets) c.in_ok-write_reference.ensures.ok, reference_room c.args.writer.now c.args.identity.now.coord c.write_reference.ensures.reference)

pub write_otid-requires : goal.write_otid-requires
write_otid-requires c =
    omega (arith, c.requires.room, ap (λ (x : Writing). length x.octets) c.in_ok-write_reference.ensures.ok, reference_room c.args.writer.now c.args.identity.now.coord c.write_reference.ensures.reference, ap (λ (x : Writing). length x.octets) c.in_ok-write_reference-2.ensures.ok, reference_room c.write_reference.new.writer c.args.identity.now.term c.write_reference-2.ensures.reference)

pub returns-clause-ok : goal.returns-clause-ok
returns-clause-ok c =
    let w = c.args.writer.now in
    let i = c.args.identity.now in
    let otid = otid_values (cast_unsigned w32 i.otid.format) i.otid.bqual i.otid.tid in
    let one = with_values w (reference_values i.coord) in
    let two : c.write_reference-2.new.writer ≡ with_values one (reference_values i.term) = c.in_ok-write_reference-2.ensures.ok ∙ ap (λ (x : Writing). with_values x (reference_values i.term)) c.in_ok-write_reference.ensures.ok in
    let parts = with_values-append w (reference_values i.coord) (reference_values i.term ++ otid) ∙ with_values-append one (reference_values i.term) otid in
    map_ok c.write_otid.result (λ (e : c.write_otid.new.writer ≡ with_values c.write_reference-2.new.writer otid). e ∙ ap (λ (x : Writing). with_values x otid) two ∙ sym parts) c.write_otid.ensures.ok
