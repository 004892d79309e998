use Rattle.resource_end.specs.Calls.{learn, wanted_by_answer}
use Rattle.resource_end.proofs.Crashing.{afresh_safe}
use Rattle.resource_end.proofs.Staying.{learnt_stays}
use Rattle.resource_end.proofs.end.ResourceEnd.learn.Goals as goal

pub returns-clause-crash : goal.returns-clause-crash
returns-clause-crash g c =
    afresh_safe c.kept.ensures.appends g.D.Disk.told c.args.self.now c.try_learn-said.new.self c.try_learn-said.result c.kept.ensures.whole c.kept-2.ensures.whole
    (wanted_by_answer c.args.heard.now c.args.key.now) (learn c.args.key.now c.args.heard.now) c.try_learn-said.ensures.called

pub returns-clause-stays : goal.returns-clause-stays
returns-clause-stays g c =
    λ h. learnt_stays g.D.Disk.told c.args.self.now c.try_learn-said.new.self h c.args.key.now c.args.heard.now c.try_learn-said.result c.try_learn-said.ensures.called
