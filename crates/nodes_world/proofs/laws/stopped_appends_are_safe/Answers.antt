use Rattle.nodes_world.proofs.Stopped as proved
use Rattle.nodes_world.proofs.laws.stopped_appends_are_safe.Goals as goal

pub returns-clause-through : goal.returns-clause-through
returns-clause-through c = proved.appends_go_through

pub returns-clause-stopped : goal.returns-clause-stopped
returns-clause-stopped c = proved.stopped_appends_are_safe c.writes_read_images.ensures c.appends_are_safe.ensures c.what_is_left_is_an_image.ensures
