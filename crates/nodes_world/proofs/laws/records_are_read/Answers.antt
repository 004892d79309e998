use Rattle.nodes_world.proofs.ReadRecords as proved
use Rattle.nodes_world.proofs.laws.records_are_read.Goals as goal

pub returns : goal.returns
returns c = proved.records_are_read c.bodies_are_read.ensures
