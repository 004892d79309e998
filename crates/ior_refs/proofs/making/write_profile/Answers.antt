use Rattle.std.proofs.Common.{◌≡◌, [], ◌∷◌, ◌∙◌, ap, refl}
use Rattle.std.specs.Prelude.{IfErr, OnOk}
use Rattle.std.proofs.lemmas.Result.{err_from_is_err_and}
use Rattle.cdr_values.specs.declared.order.Order.TheVariants.{Big}
use Rattle.cdr_values.specs.declared.fault.CdrFault.TheVariants as cdr
use Rattle.cdr_values.specs.Value.{ULong, OctetSequence}
use Rattle.cdr_values.specs.Values.{with_values}
use Rattle.cdr_values.specs.Encapsulation.{begun}
use Rattle.cdr_values.specs.Writing.{Writing, with_value}
use Rattle.ior_refs.specs.Key.{octets_of_key}
use Rattle.ior_refs.specs.Making.{iiop_to}
use Rattle.ior_refs.specs.Iiop.{iiop_values}
use Rattle.ior_refs.proofs.Room.{profile_short, has_room, last_written, in_front}
use Rattle.ior_refs.proofs.making.write_profile.Goals as goal

pub returns-in_err-octets-clause-memory : goal.returns-in_err-octets-clause-memory
returns-in_err-octets-clause-memory c =
    let at = c.args.at.now in
    let key = c.args.key.now in
    let text = rw c.bytes.ensures.same at c.in_ok-string.ensures.ok in
    let before = in_front at c.args.writer.now c.octet.new.self c.octet-2.new.self c.string.new.self c.ushort.new.self c.requires.front c.in_ok-octet.ensures.ok c.in_ok-octet-2.ensures.ok text c.in_ok-ushort.ensures.ok in
    let refused = rw c.key_octets.ensures at c.in_err-octets.ensures.refused in
    let fault = c.in_err-octets.field-0.0 in
    let p = err_from_is_err_and c.from_residual-in_err-octets.result c.from_residual-in_err-octets.ensures.1 in
    rw (p.1, p.2) (has_room (OctetSequence (octets_of_key key)) (ULong 0 ∷ []) fault c.ushort.new.self (with_values (begun Big) (iiop_values (iiop_to at key) [])) refl
    (ap (λ (w : Writing). with_values w (OctetSequence (octets_of_key key) ∷ ULong 0 ∷ [])) before) (profile_short at key c.requires.short) refused)

-- its count of components is written, or memory is wanted
at_end : (c : goal.After-ulong) → OnOk c.ulong.result (c.ulong.new.self ≡ with_values (begun Big) (iiop_values (iiop_to c.args.at.now c.args.key.now) [])) × IfErr c.ulong.result (λ fault. fault ≡ cdr.Memory)
at_end c =
    let at = c.args.at.now in
    let key = c.args.key.now in
    let text = rw c.bytes.ensures.same at c.in_ok-string.ensures.ok in
    let before = in_front at c.args.writer.now c.octet.new.self c.octet-2.new.self c.string.new.self c.ushort.new.self c.requires.front c.in_ok-octet.ensures.ok c.in_ok-octet-2.ensures.ok text c.in_ok-ushort.ensures.ok in
    let one = rw c.key_octets.ensures at c.in_ok-octets.ensures.ok in
    let more = one ∙ ap (λ (w : Writing). with_value w (OctetSequence (octets_of_key key))) before in
    last_written (ULong 0) c.ulong.result c.octets.new.self c.ulong.new.self _ refl more (profile_short at key c.requires.short) c.ulong.ensures

pub returns-clause-memory : goal.returns-clause-memory
returns-clause-memory c = (at_end c).1

pub returns-clause-ok : goal.returns-clause-ok
returns-clause-ok c = (at_end c).0
