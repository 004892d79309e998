use Rattle.decision_journal.proofs.Grows.{bodies_are_read}
use Rattle.decision_journal.proofs.laws.bodies_are_read.Goals as goal

pub returns : goal.returns
returns c = bodies_are_read
