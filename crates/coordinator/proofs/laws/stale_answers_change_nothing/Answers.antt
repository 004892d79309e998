use Rattle.coordinator.proofs.Outcomes.{stale}
use Rattle.coordinator.proofs.laws.stale_answers_change_nothing.Goals as goal

pub returns : goal.returns
returns c = stale
