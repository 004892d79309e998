use Rattle.resource_end.specs.Calls.{told, wanted}
use Rattle.resource_end.proofs.Crashing.{afresh_safe}
use Rattle.resource_end.proofs.Staying.{told_stays}
use Rattle.resource_end.proofs.end.ResourceEnd.told.Goals as goal

pub returns-clause-crash : goal.returns-clause-crash
returns-clause-crash g c =
    afresh_safe c.kept.ensures.appends g.D.Disk.told c.args.self.now c.try_word-said.new.self c.try_word-said.result c.kept.ensures.whole c.kept-2.ensures.whole
    (wanted c.args.word c.args.key.now) (told c.args.word c.args.key.now) c.try_word-said.ensures.called

pub returns-clause-stays : goal.returns-clause-stays
returns-clause-stays g c =
    λ h. told_stays g.D.Disk.told c.args.self.now c.try_word-said.new.self h c.args.word c.args.key.now c.try_word-said.result c.try_word-said.ensures.called
