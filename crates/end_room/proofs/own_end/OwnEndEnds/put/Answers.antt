use Rattle.end_room.proofs.Doing.{has_put}
use Rattle.end_room.proofs.own_end.OwnEndEnds.put.Goals as goal

pub returns-clause-does : goal.returns-clause-does
returns-clause-does g c =
    has_put g.D.Disk.wants_memory g.D.Disk.told g.D.Disk.faults c.self.inside.end c.put.new.self c.self.inside.given
    (record { at = c.self.inside.at; service = c.self.inside.service }) c.args.self.now c.self.view_is
    c.args.key.now c.args.cell c.args.value c.put.result c.put.ensures.called
    (record { crash = c.put.ensures.crash; stays = c.put.ensures.stays; fault = c.put.ensures.fault; later = c.put.ensures.later })
