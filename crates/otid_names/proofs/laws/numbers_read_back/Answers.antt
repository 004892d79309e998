use Rattle.otid_names.proofs.Tids.{numbers_read_back}
use Rattle.otid_names.proofs.laws.numbers_read_back.Goals as goal

pub returns : goal.returns
returns c = numbers_read_back
