use Rattle.decision_journal.proofs.Grows.{journals_grow}
use Rattle.decision_journal.proofs.laws.journals_grow.Goals as goal

pub returns : goal.returns
returns c = journals_grow
