use Rattle.nodes_world.proofs.OverForGood.{resources_stay}
use Rattle.nodes_world.proofs.laws.resources_stay_over.Goals as goal

pub returns : goal.returns
returns c = resources_stay
