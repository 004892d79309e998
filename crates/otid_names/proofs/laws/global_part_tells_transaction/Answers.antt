use Rattle.otid_names.proofs.Tids.{global_tells}
use Rattle.otid_names.proofs.laws.global_part_tells_transaction.Goals as goal

pub returns : goal.returns
returns c = global_tells
