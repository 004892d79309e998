use Rattle.std.proofs.Common.{◌∙◌, ◌<◌, ◌≤◌, ap, subst}
use Rattle.coordinator.specs.Limits.{generation_limit}
use Rattle.coordinator.specs.NodeSlots.{free_slot}
use Rattle.service_node.specs.NodeState.{NodeState}
use Rattle.service_node.proofs.Free.{no_number, no_slot, slot_given}
use Rattle.service_node.proofs.node.Node.next_slot.Goals as goal

pub returns-then-self-ge-GENERATION_LIMIT-clause-none : goal.returns-then-self-ge-GENERATION_LIMIT-clause-none
returns-then-self-ge-GENERATION_LIMIT-clause-none g c =
    λ none. no_number c.args.self.now.node (subst (λ (s : NodeState g.row.D.Denot). generation_limit ≤ s.node.generation) c.self.view_is c.if-self-ge-GENERATION_LIMIT.true)

pub returns-clause-some : goal.returns-clause-some
unfolding free_slot
returns-clause-some g c = slot_given c.args.self.now.node c.free_from.result
    (c.free_from.ensures.slot ∙ ap (λ (s : NodeState g.row.D.Denot). free_slot s.node) c.self.view_is)
    c.free_from.ensures.within
    (subst (λ (s : NodeState g.row.D.Denot). s.node.generation < generation_limit) c.self.view_is c.if-self-ge-GENERATION_LIMIT.false)

pub returns-clause-none : goal.returns-clause-none
unfolding free_slot
returns-clause-none g c = no_slot c.args.self.now.node c.free_from.result (c.free_from.ensures.slot ∙ ap (λ (s : NodeState g.row.D.Denot). free_slot s.node) c.self.view_is)
