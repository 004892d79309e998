use Rattle.std.proofs.Common.{◌∙◌, ap}
use Rattle.recovery_coord.specs.Trees.{TreesParts, first_in}
use Rattle.recovery_coord.proofs.trees.Trees.reserve.Goals as goal

pub returns-clause-same : goal.returns-clause-same
returns-clause-same c = λ t. c.reserve.ensures.entries.2 t ∙ ap (λ (p : TreesParts). first_in p.firsts t) c.self.view_is
