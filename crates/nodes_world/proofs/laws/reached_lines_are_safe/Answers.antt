use Rattle.nodes_world.proofs.Reaching.{agreement}
use Rattle.nodes_world.proofs.laws.reached_lines_are_safe.Goals as goal

pub returns : goal.returns
returns c = agreement c.steps_stay_known.ensures c.allowed_lines_are_safe.ensures
