use Rattle.std.proofs.Common.{◌∙◌, refl, sym}
use Rattle.coordinator.specs.NodeCalls.{family_for}
use Rattle.service_node.proofs.Replied.{replied}
use Rattle.service_node.proofs.Stepping.{none_where}
use Rattle.service_node.proofs.node.Node.call.Goals as goal

pub returns-else-hears-clause-applied : goal.returns-else-hears-clause-applied
returns-else-hears-clause-applied g c =
    replied g.D.Disk.told g.D.Disk.faults c.args.key.now c.args.event.now c.args.self.now c.answer_recovered.new.self c.answer_recovered.result
    c.args.out.now.words c.args.out.now.words g.D.Disk.wants_memory
    (none_where (family_for c.args.key.now c.args.event.now c.args.self.now.node) (sym c.hears.ensures ∙ c.if-hears.false))
    c.answer_recovered.ensures.answered refl
