use Rattle.coordinator.proofs.Phased.{answers_by_phase}
use Rattle.coordinator.proofs.laws.answers_follow_phases.Goals as goal

pub returns : goal.returns
returns c = answers_by_phase
