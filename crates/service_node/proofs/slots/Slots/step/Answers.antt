use Rattle.std.proofs.Common.{◌≡◌, ℕ, ◌<◌, IfErr, IfOk, IsSome, List, Option, length, map, set, subst, sym, arith}
use Rattle.coordinator.specs.Family.{Family, FamilyParts}
use Rattle.coordinator.specs.Node.{family_in}
use Rattle.service_node.specs.Applying.{HasSteppedAt, IsUnmovedAt}
use Rattle.service_node.specs.NodeState.{shown}
use Rattle.service_node.proofs.Placed.{in_slot, slot_fault, slot_step, within}
use Rattle.service_node.proofs.slots.Slots.step.Goals as goal

there_within : (items : List (Option FamilyParts)) (families : List (Option Family)) (slot : ℕ) → map shown items ≡ families → IsSome (family_in families slot) → slot < length items
there_within items families slot shows there = within items slot (subst (λ (fs : List (Option Family)). IsSome (family_in fs slot)) (sym shows) there)

pub index_mut-requires : goal.index_mut-requires
index_mut-requires g c =
    let lt = there_within c.self.inside.items.items c.args.self.now c.args.slot c.self.view_is c.requires.there in
    omega (arith, lt, c.self.inside.items.ok.0)

pub step_place-requires-clause-there : goal.step_place-requires-clause-there
step_place-requires-clause-there g c =
    let items = c.self.inside.items.items in
    let lt = there_within items c.args.self.now c.args.slot c.self.view_is c.requires.there in
    subst (λ (o : Option Family). IsSome o) (in_slot items c.args.slot c.index_mut.result.now lt c.index_mut.ensures.value)
    (subst (λ (fs : List (Option Family)). IsSome (family_in fs c.args.slot)) (sym c.self.view_is) c.requires.there)

pub returns-clause-stepped : goal.returns-clause-stepped
returns-clause-stepped g c =
    let items = c.self.inside.items.items in
    let lt = there_within items c.args.self.now c.args.slot c.self.view_is c.requires.there in
    let new = c.step_place.new in
    subst (λ (fs : List (Option Family)). IfOk c.step_place.result (λ answer. HasSteppedAt g.D.Disk.wants_memory g.D.Disk.told g.D.Disk.faults c.args.slot c.args.event.now
    fs (map shown (set items c.args.slot new.place)) c.args.journal.now new.journal c.args.recovered.now new.recovered answer
    c.args.out.now.words new.out.words)) c.self.view_is
    (slot_step items c.args.slot c.index_mut.result.now lt c.index_mut.ensures.value g.D.Disk.wants_memory g.D.Disk.told g.D.Disk.faults c.args.event.now new.place
    c.args.journal.now new.journal c.args.recovered.now new.recovered c.args.out.now.words new.out.words c.step_place.result c.step_place.ensures.stepped)

pub returns-clause-unmoved : goal.returns-clause-unmoved
returns-clause-unmoved g c =
    let items = c.self.inside.items.items in
    let lt = there_within items c.args.self.now c.args.slot c.self.view_is c.requires.there in
    let new = c.step_place.new in
    subst (λ (fs : List (Option Family)). IfErr c.step_place.result (λ fault. IsUnmovedAt c.args.slot c.args.event.now
    fs (map shown (set items c.args.slot new.place)) c.args.journal.now new.journal c.args.recovered.now new.recovered fault
    c.args.out.now.words new.out.words)) c.self.view_is
    (slot_fault items c.args.slot c.index_mut.result.now lt c.index_mut.ensures.value g.D.Disk.wants_memory g.D.Disk.told g.D.Disk.faults c.args.event.now new.place
    c.args.journal.now new.journal c.args.recovered.now new.recovered c.args.out.now.words new.out.words c.step_place.result c.step_place.ensures.unmoved)
