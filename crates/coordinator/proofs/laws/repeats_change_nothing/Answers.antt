use Rattle.coordinator.proofs.Outcomes.{repeats}
use Rattle.coordinator.proofs.laws.repeats_change_nothing.Goals as goal

pub returns : goal.returns
returns c = repeats
