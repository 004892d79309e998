use Rattle.std.proofs.Common.{◌∙◌, List, Option, Some, set, ap}
use Rattle.std.proofs.lemmas.List.{map-set}
use Rattle.coordinator.specs.Family.{Family}
use Rattle.service_node.specs.NodeState.{shown}
use Rattle.service_node.proofs.slots.Slots.put.Goals as goal

pub returns : goal.returns
returns c =
    map-set shown c.self.inside.items.items c.args.slot (Some c.args.family)
    ∙ ap (λ (l : List (Option Family)). set l c.args.slot (Some c.args.family.family)) c.self.view_is
