use Rattle.end_room.proofs.Doing.{has_learnt}
use Rattle.end_room.proofs.own_end.OwnEndEnds.learn.Goals as goal

pub returns-clause-does : goal.returns-clause-does
returns-clause-does g c =
    has_learnt g.D.Disk.wants_memory g.D.Disk.told g.D.Disk.faults c.self.inside.end c.learn-said.new.self c.self.inside.given
    (record { at = c.self.inside.at; service = c.self.inside.service }) c.args.self.now c.self.view_is
    c.args.key.now c.args.heard.now c.learn-said.result c.tidy.new.self c.tidy.ensures.end c.learn-said.ensures.called
    (record { crash = c.learn-said.ensures.crash; stays = c.learn-said.ensures.stays; fault = c.learn-said.ensures.fault; later = c.learn-said.ensures.later })
    c.tidy.ensures.names
