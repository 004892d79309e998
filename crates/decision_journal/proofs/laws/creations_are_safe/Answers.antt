use Rattle.decision_journal.proofs.Creation.{creation_safe}
use Rattle.decision_journal.proofs.laws.creations_are_safe.Goals as goal

pub returns : goal.returns
returns c = creation_safe
