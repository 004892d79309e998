use Rattle.std.proofs.Common.{◌∙◌, None, ap}
use Rattle.end_room.specs.Own.{named}
use Rattle.end_room.proofs.Names.{changed}
use Rattle.end_room.proofs.given.Given.remove.Goals as goal

pub returns-clause-own : goal.returns-clause-own
returns-clause-own c = (changed c.args.tid.now None c.self.inside.map c.remove.new.self c.remove.ensures.updates).0

pub returns-clause-others : goal.returns-clause-others
returns-clause-others c other apart =
    (changed c.args.tid.now None c.self.inside.map c.remove.new.self c.remove.ensures.updates).1 other apart ∙ ap (named other) c.self.view_is
