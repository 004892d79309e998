use Rattle.decision_journal.proofs.OneList.{payloads_tell}
use Rattle.decision_journal.proofs.laws.payloads_tell_records.Goals as goal

pub returns : goal.returns
returns c = payloads_tell
