use Rattle.otid_names.proofs.Tids.{same_numbers}
use Rattle.otid_names.proofs.laws.same_numbers_same_otid.Goals as goal

pub returns : goal.returns
returns c = same_numbers
