use Rattle.nodes_ready.proofs.Deeds.{nodes_keep_whole, seats_keep_whole, sending_keeps_whole}
use Rattle.nodes_ready.proofs.laws.kept_worlds_stay_whole.Goals as goal

pub returns-clause-messages : goal.returns-clause-messages
returns-clause-messages c = sending_keeps_whole

pub returns-clause-seats : goal.returns-clause-seats
returns-clause-seats c = seats_keep_whole

pub returns-clause-nodes : goal.returns-clause-nodes
returns-clause-nodes c = nodes_keep_whole
