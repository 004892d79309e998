use Rattle.coordinator.proofs.Numbers.{keys_are_new}
use Rattle.coordinator.proofs.laws.keys_are_new.Goals as goal

pub returns : goal.returns
returns c = keys_are_new
