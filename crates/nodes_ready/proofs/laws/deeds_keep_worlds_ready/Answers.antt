use Rattle.nodes_ready.proofs.Deeds.{deeds_keep_ready}
use Rattle.nodes_ready.proofs.laws.deeds_keep_worlds_ready.Goals as goal

pub returns : goal.returns
returns c = deeds_keep_ready
