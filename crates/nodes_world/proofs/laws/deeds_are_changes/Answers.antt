use Rattle.nodes_world.proofs.Deeds as proved
use Rattle.nodes_world.proofs.laws.deeds_are_changes.Goals as goal

pub returns : goal.returns
returns c = proved.deeds_are_changes
