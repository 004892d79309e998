use Rattle.std.proofs.Common.{◌∙◌, List, sym, ap, subst}
use Rattle.recovery_coord.specs.Held.{Recoveries}
use Rattle.recovery_coord.specs.declared.held.Held.{Held}
use Rattle.service_node.proofs.Stands.{AllStand, retold_stand}
use Rattle.service_node.proofs.Whole.{records_together}
use Rattle.service_node.proofs.node.Node.tell_again.Goals as goal

pub invariant_of-self : goal.invariant_of-self
invariant_of-self g c =
    let standing = c.self.inside.journal.found.standing in
    let held = c.self.inside.recovered in
    records_together c.self.inside.journal held c.redrive.new.self c.self.inside.slots c.self.inside.last c.self.inside.generation c.self.invariant
    (c.redrive.ensures.records ∙ ap (λ (rs : List Held). record held { records = rs }) (sym (ap (λ (x : Recoveries). x.records) c.redrive.ensures.records)))
    (subst (AllStand standing) (sym (ap (λ (x : Recoveries). x.records) c.redrive.ensures.records))
    (retold_stand standing held.records c.self.invariant.whole.held))

pub invariant_of-self-2 : goal.invariant_of-self-2
invariant_of-self-2 g c =
    let standing = c.self.inside.journal.found.standing in
    let held = c.self.inside.recovered in
    records_together c.self.inside.journal held c.redrive.new.self c.self.inside.slots c.self.inside.last c.self.inside.generation c.self.invariant
    (c.redrive.ensures.records ∙ ap (λ (rs : List Held). record held { records = rs }) (sym (ap (λ (x : Recoveries). x.records) c.redrive.ensures.records)))
    (subst (AllStand standing) (sym (ap (λ (x : Recoveries). x.records) c.redrive.ensures.records))
    (retold_stand standing held.records c.self.invariant.whole.held))
