use Rattle.nodes_world.proofs.ToldAgain.{tell_again}
use Rattle.nodes_world.proofs.laws.decisions_are_told_again.Goals as goal

pub returns : goal.returns
returns c =
    tell_again c.steps_stay_known.ensures c.dones_are_complete.ensures.held c.journals_grow.ensures c.decisions_outlive_crashes.ensures.again
