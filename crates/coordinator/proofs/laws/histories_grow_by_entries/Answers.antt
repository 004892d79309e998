use Rattle.coordinator.proofs.Outcomes.{histories_grow}
use Rattle.coordinator.proofs.laws.histories_grow_by_entries.Goals as goal

pub returns : goal.returns
returns c = histories_grow
