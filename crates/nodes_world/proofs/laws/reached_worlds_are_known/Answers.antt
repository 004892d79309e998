use Rattle.nodes_world.proofs.ReachedKnown.{reached_is_known}
use Rattle.nodes_world.proofs.laws.reached_worlds_are_known.Goals as goal

pub returns : goal.returns
returns c = reached_is_known c.steps_stay_known.ensures
