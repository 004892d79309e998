use Rattle.service_node.proofs.Crashing.{applied_safe}
use Rattle.service_node.proofs.Staying.{stays_in_life}
use Rattle.service_node.proofs.node.Node.apply.Goals as goal

pub returns-clause-crash : goal.returns-clause-crash
returns-clause-crash g c =
    applied_safe c.kept.ensures.appends g.D.Disk.told g.D.Disk.faults c.args.self.now c.call-said.new.self c.kept.ensures.known c.kept-2.ensures.known
    g.D.Disk.wants_memory c.args.key.now c.args.event.now c.call-said.result c.args.out.now.words c.call-said.new.out.words c.call-said.ensures.applied

pub returns-clause-stays : goal.returns-clause-stays
returns-clause-stays g c =
    stays_in_life g.D.Disk.wants_memory g.D.Disk.told g.D.Disk.faults c.args.key.now c.args.event.now c.args.self.now c.call-said.new.self
    c.call-said.result c.args.out.now.words c.call-said.new.out.words c.hangs_together.ensures.life_stays c.call-said.ensures.applied
