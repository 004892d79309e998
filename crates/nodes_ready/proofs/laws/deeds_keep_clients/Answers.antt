use Rattle.nodes_ready.proofs.Deeds.{deeds_add_no_call}
use Rattle.nodes_ready.proofs.laws.deeds_keep_clients.Goals as goal

pub returns : goal.returns
returns c = deeds_add_no_call
