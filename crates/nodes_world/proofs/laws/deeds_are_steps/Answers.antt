use Rattle.nodes_world.proofs.Delivered.{reached_delivered}
use Rattle.nodes_world.proofs.GoingOn.{deeds_go}
use Rattle.nodes_world.proofs.laws.deeds_are_steps.Goals as goal

pub returns-clause-steps : goal.returns-clause-steps
returns-clause-steps c = deeds_go

pub returns-clause-delivered : goal.returns-clause-delivered
returns-clause-delivered c = reached_delivered
