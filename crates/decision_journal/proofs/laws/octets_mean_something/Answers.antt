use Rattle.decision_journal.proofs.Meant.{some_meaning}
use Rattle.decision_journal.proofs.laws.octets_mean_something.Goals as goal

pub returns : goal.returns
returns c = some_meaning
