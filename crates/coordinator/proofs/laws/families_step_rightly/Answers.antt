use Rattle.coordinator.proofs.Rightly.{steps_right}
use Rattle.coordinator.proofs.laws.families_step_rightly.Goals as goal

pub returns : goal.returns
returns c = steps_right
