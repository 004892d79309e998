use Rattle.decision_journal.proofs.OneList.{one_list}
use Rattle.decision_journal.proofs.laws.octets_stand_for_one_list.Goals as goal

pub returns : goal.returns
returns c = one_list
