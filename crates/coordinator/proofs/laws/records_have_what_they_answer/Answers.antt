use Rattle.coordinator.proofs.Objects.{have_what_they_answer}
use Rattle.coordinator.proofs.laws.records_have_what_they_answer.Goals as goal

pub returns : goal.returns
returns c = have_what_they_answer
