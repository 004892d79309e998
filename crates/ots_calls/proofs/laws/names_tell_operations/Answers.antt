use Rattle.ots_calls.proofs.Tables.{names_tell}
use Rattle.ots_calls.proofs.laws.names_tell_operations.Goals as goal

pub returns : goal.returns
returns c = names_tell
