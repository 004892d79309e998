use Rattle.std.proofs.Common.{◌∙◌, ◌<◌, Option, sym, ap, subst}
use Rattle.coordinator.specs.Family.{Family}
use Rattle.coordinator.specs.Limits.{generation_limit}
use Rattle.coordinator.specs.NodeSlots.{next_key, takes_over}
use Rattle.service_node.specs.NodeState.{NodeState}
use Rattle.service_node.proofs.Whole.{begun_together}
use Rattle.service_node.proofs.node.Node.begin.Goals as goal

pub invariant_of-self-2 : goal.invariant_of-self-2
invariant_of-self-2 g c =
    begun_together c.self.inside.journal c.self.inside.recovered c.take_from.new.recovered c.self.inside.slots c.put.new.self c.self.inside.last
    c.self.inside.generation c.args.slot c.args.family.family c.self.invariant c.requires.slot
    (subst (λ (s : NodeState g.row.D.Denot). s.node.generation < generation_limit) (sym c.self.view_is) c.requires.number)
    (c.requires.key ∙ ap (λ (s : NodeState g.row.D.Denot). next_key s.node c.args.slot) (sym c.self.view_is))
    (c.in-Ok.ensures.ok ∙ ap (λ (o : Option Family). record c.self.inside.recovered { records = takes_over c.self.inside.journal.found o c.self.inside.recovered.records }) c.family-left.ensures)
    c.put.ensures
