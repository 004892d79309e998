use Rattle.decision_journal.proofs.Append.{append_lawful}
use Rattle.decision_journal.proofs.laws.appends_are_safe.Goals as goal

pub returns : goal.returns
returns c = append_lawful
