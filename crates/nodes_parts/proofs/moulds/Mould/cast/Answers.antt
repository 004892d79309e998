use Rattle.std.proofs.Common.{◌≡◌, ◌∙◌, ℕ, List, ap, length, arith}
use Rattle.std.proofs.lemmas.Grind.{common_steps}
use Rattle.ior_refs.specs.declared.key.ObjectKey.{ObjectKey}
use Rattle.nodes_world.specs.Objects.{reference}
use Rattle.nodes_parts.specs.Moulded.{numbered_as, with_number}
use Rattle.nodes_parts.proofs.Placed.{another, has_number}
use Rattle.nodes_parts.proofs.moulds.Mould.cast.Goals as goal

pub put_number-requires : goal.put_number-requires
put_number-requires c =
    let same : c.in_ok-octets.octets.items ≡ reference c.self.inside.name c.self.inside.key =
    c.in_ok-octets.ensures.items_if_clones_equal (λ x y e. e) ∙ c.bytes.ensures.same ∙ c.self.invariant in
    record { long = omega (arith, c.deref_mut.ensures.len, ap length c.deref_mut.ensures.value, ap length same, has_number c.values_are_written_canonically.ensures c.self.inside.name c.self.inside.key) }

pub returns : goal.returns
returns c =
    let name = c.self.inside.name in
    let key = c.self.inside.key in
    let same : c.in_ok-octets.octets.items ≡ reference name key =
    c.in_ok-octets.ensures.items_if_clones_equal (λ x y e. e) ∙ c.bytes.ensures.same ∙ c.self.invariant in
    grind (arith, common_steps, c.from_vec.ensures.same, c.put_number.ensures, c.deref_mut.ensures.value)
    ∙ ap (with_number c.args.number) same ∙ another c.values_are_written_canonically.ensures name key c.args.number
    ∙ ap (λ (v : List ℕ × ObjectKey). reference v.0 (numbered_as v.1 c.args.number)) c.self.view_is
