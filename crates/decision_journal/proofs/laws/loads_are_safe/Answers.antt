use Rattle.decision_journal.proofs.Loads.{load_safe}
use Rattle.decision_journal.proofs.laws.loads_are_safe.Goals as goal

pub returns : goal.returns
returns c = load_safe
