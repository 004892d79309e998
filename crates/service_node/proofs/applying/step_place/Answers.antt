use Rattle.std.proofs.Common.{[], ◌∷◌, IfErr, IfOk, Option, Some, ap, subst, sym}
use Rattle.coordinator.specs.Family.{Family}
use Rattle.service_node.specs.Applying.{HasSteppedAt, IsUnmovedAt}
use Rattle.service_node.specs.NodeState.{shown}
use Rattle.service_node.proofs.Placed.{placed_fault, placed_step}
use Rattle.service_node.proofs.applying.step_place.Goals as goal

pub returns-in-Some-clause-stepped : goal.returns-in-Some-clause-stepped
returns-in-Some-clause-stepped g c =
    let new = c.step_family.new in
    let e = c.args.event.now in
    subst (λ (o : Option Family). IfOk c.step_family.result (λ answer. HasSteppedAt g.D.Disk.wants_memory g.D.Disk.told g.D.Disk.faults 0 e (o ∷ []) (Some new.family.family ∷ [])
    c.args.journal.now new.journal c.args.recovered.now new.recovered answer c.args.out.now.words new.out.words)) (sym (ap shown c.in-Some.is))
    (placed_step g.D.Disk.wants_memory g.D.Disk.told g.D.Disk.faults e c.in-Some.family.family new.family.family c.args.journal.now new.journal c.args.recovered.now new.recovered
    c.args.out.now.words new.out.words c.step_family.result c.step_family.ensures.key c.step_family.ensures.stepped c.step_family.ensures.fits)

pub returns-in-Some-clause-unmoved : goal.returns-in-Some-clause-unmoved
returns-in-Some-clause-unmoved g c =
    let new = c.step_family.new in
    let e = c.args.event.now in
    subst (λ (o : Option Family). IfErr c.step_family.result (λ fault. IsUnmovedAt 0 e (o ∷ []) (Some new.family.family ∷ [])
    c.args.journal.now new.journal c.args.recovered.now new.recovered fault c.args.out.now.words new.out.words)) (sym (ap shown c.in-Some.is))
    (placed_fault g.D.Disk.wants_memory g.D.Disk.told g.D.Disk.faults e c.in-Some.family.family new.family.family c.args.journal.now new.journal c.args.recovered.now new.recovered
    c.args.out.now.words new.out.words c.step_family.result c.step_family.ensures.same c.step_family.ensures.fault)
