use Rattle.nodes_world.proofs.LeftImages as proved
use Rattle.nodes_world.proofs.laws.what_is_left_is_an_image.Goals as goal

pub returns : goal.returns
returns c = proved.what_is_left_is_an_image
