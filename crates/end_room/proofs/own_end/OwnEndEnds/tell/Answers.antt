use Rattle.end_room.proofs.Doing.{is_told}
use Rattle.end_room.proofs.own_end.OwnEndEnds.tell.Goals as goal

pub returns-clause-does : goal.returns-clause-does
returns-clause-does g c =
    is_told g.D.Disk.wants_memory g.D.Disk.told g.D.Disk.faults c.self.inside.end c.tell-said.new.end c.self.inside.given
    (record { at = c.self.inside.at; service = c.self.inside.service }) c.args.self.now c.self.view_is
    c.args.word c.args.key.now c.tell-said.result c.tidy.new.self c.tidy.ensures.end c.tell-said.ensures.called
    (record { crash = c.tell-said.ensures.crash; stays = c.tell-said.ensures.stays; fault = c.tell-said.ensures.fault; later = c.tell-said.ensures.later })
    c.tidy.ensures.names
