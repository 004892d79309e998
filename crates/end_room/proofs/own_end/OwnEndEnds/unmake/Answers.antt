use Rattle.end_room.proofs.Doing.{unmakes}
use Rattle.end_room.proofs.own_end.OwnEndEnds.unmake.Goals as goal

pub returns-clause-does : goal.returns-clause-does
returns-clause-does g c =
    unmakes c.self.inside.end c.self.inside.given (record { at = c.self.inside.at; service = c.self.inside.service })
    c.args.self.now c.self.view_is c.args.key.now c.unmake.new.self c.tidy.new.self
    c.unmake.ensures.called c.unmake.ensures.stays c.tidy.ensures.end c.tidy.ensures.names
