-- A writer that takes back what it wrote is as it was.
use Rattle.std.proofs.Common.{◌≡◌, ◌-◌, ◌≤◌, List, ap, ◌∙◌, arith}
use Rattle.std.proofs.lemmas.List.{take_at}
use Rattle.cdr_values.specs.declared.fault.CdrFault.{CdrFault}
use Rattle.cdr_values.specs.Value.{Value}
use Rattle.cdr_values.specs.Values.{canonical_all}
use Rattle.cdr_values.specs.Writing.{Writing, place_of, written_before}
use Rattle.ior_refs.specs.Writing.{StopsIn}
use Rattle.ior_refs.proofs.Short.{writing, with_values-is}

-- it has not begun behind the place at which it stood
pub begun_before : (values : List Value) (fault : CdrFault) (w stopped : Writing) → StopsIn values fault w stopped → stopped.start ≤ place_of w
begun_before values fault w stopped h =
    let same = ap (λ (x : Writing). x.start) (h.stands ∙ with_values-is w h.written) in
    omega (arith, same)

pub taken_back : (values : List Value) (fault : CdrFault) (w stopped : Writing) → StopsIn values fault w stopped → written_before (place_of w) stopped ≡ w
taken_back values fault w stopped h =
    let more = canonical_all w.order (place_of w) h.written in
    ap (written_before (place_of w)) (h.stands ∙ with_values-is w h.written)
    ∙ ap (writing w.order w.start) (take_at w.octets more (place_of w - w.start) (omega arith))
