use Rattle.coordinator.proofs.Numbers.{keep_numbers}
use Rattle.coordinator.proofs.laws.nodes_keep_numbers.Goals as goal

pub returns : goal.returns
returns c = keep_numbers
