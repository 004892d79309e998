use Rattle.resource_end.specs.Calls.{refuse}
use Rattle.resource_end.specs.Journaling.{nothing}
use Rattle.resource_end.proofs.Crashing.{called_safe}
use Rattle.resource_end.proofs.Staying.{refused_stays}
use Rattle.resource_end.proofs.end.ResourceEnd.refuse.Goals as goal

pub returns-clause-crash : goal.returns-clause-crash
returns-clause-crash g c =
    called_safe c.kept.ensures.appends g.D.Disk.told c.args.self.now c.try_refuse-said.new.self c.try_refuse-said.result c.kept.ensures.whole c.kept-2.ensures.whole
    nothing (refuse c.args.key.now) c.try_refuse-said.ensures.called

pub returns-clause-stays : goal.returns-clause-stays
returns-clause-stays g c =
    λ h. refused_stays g.D.Disk.told c.args.self.now c.try_refuse-said.new.self h c.args.key.now c.try_refuse-said.result c.try_refuse-said.ensures.called
