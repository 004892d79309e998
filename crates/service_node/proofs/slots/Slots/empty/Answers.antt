use Rattle.std.proofs.Common.{◌≡◌, ◌∙◌, ℕ, Option, None, map, replicate, ap, arith}
use Rattle.coordinator.specs.Family.{Family, FamilyParts}
use Rattle.service_node.specs.NodeState.{shown}
use Rattle.service_node.proofs.Listed.{map_replicate}
use Rattle.service_node.proofs.slots.Slots.empty.Goals as goal

pub returns : goal.returns
returns c =
    let none : Option FamilyParts = None in
    let shows : Option Family = None in
    let same : c.loop-slot.slot ≡ c.args.count = omega arith in
    ap (map shown) c.loop-slot.invariant ∙ map_replicate shown c.loop-slot.slot none ∙ ap (λ (n : ℕ). replicate n shows) same
