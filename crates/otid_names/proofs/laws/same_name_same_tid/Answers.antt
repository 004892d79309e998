use Rattle.otid_names.proofs.Names.{same_name}
use Rattle.otid_names.proofs.laws.same_name_same_tid.Goals as goal

pub returns : goal.returns
returns c = same_name
