use Rattle.decision_journal.proofs.Meaning.{one_meaning}
use Rattle.decision_journal.proofs.laws.octets_mean_one_thing.Goals as goal

pub returns : goal.returns
returns c = one_meaning
