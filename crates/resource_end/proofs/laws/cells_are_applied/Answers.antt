use Rattle.resource_end.proofs.Applied.{cells_are_applied}
use Rattle.resource_end.proofs.laws.cells_are_applied.Goals as goal

pub returns : goal.returns
returns c = cells_are_applied
