use Rattle.resource_end.specs.Calls.{put}
use Rattle.resource_end.proofs.Crashing.{put_safe}
use Rattle.resource_end.proofs.Staying.{put_stays}
use Rattle.resource_end.proofs.end.ResourceEnd.put.Goals as goal

pub returns-clause-crash : goal.returns-clause-crash
returns-clause-crash g c =
    put_safe c.kept.ensures.appends g.D.Disk.told c.args.self.now c.try_put-said.new.self c.try_put-said.result c.kept.ensures.whole c.kept-2.ensures.whole
    (put c.args.key.now c.args.cell c.args.value) c.try_put-said.ensures.called

pub returns-clause-stays : goal.returns-clause-stays
returns-clause-stays g c =
    λ h. put_stays g.D.Disk.told c.args.self.now c.try_put-said.new.self h c.args.key.now c.args.cell c.args.value c.try_put-said.result c.try_put-said.ensures.called
