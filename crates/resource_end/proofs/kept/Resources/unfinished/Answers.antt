use Rattle.std.proofs.Common.{◌∙◌, length, ap}
use Rattle.std.specs.List.{count_by}
use Rattle.resource_end.specs.States.{is_unfinished}
use Rattle.resource_end.specs.End.{Resource}
use Rattle.resource_end.proofs.Counted.{counted}
use Rattle.resource_end.proofs.kept.Resources.unfinished.Goals as goal

pub returns : goal.returns
returns c =
    c.len.ensures.len ∙ ap length c.self.invariant.1 ∙ counted c.self.inside.map.entries ∙ ap (count_by (λ (r : Resource). is_unfinished r.state)) c.self.view_is
