use Rattle.resource_end.proofs.Held.{held_cells_are_held}
use Rattle.resource_end.proofs.laws.held_cells_are_held.Goals as goal

pub returns : goal.returns
returns c = held_cells_are_held
