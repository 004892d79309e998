use Rattle.std.proofs.Common.{◌∙◌, ap}
use Rattle.end_room.specs.Own.{named}
use Rattle.end_room.proofs.Names.{found}
use Rattle.end_room.proofs.given.Given.get.Goals as goal

pub returns : goal.returns
returns c = c.copied.ensures ∙ c.get.ensures.value ∙ found c.args.tid.now c.self.inside.map ∙ ap (named c.args.tid.now) c.self.view_is
