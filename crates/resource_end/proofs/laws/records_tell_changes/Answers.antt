use Rattle.resource_end.proofs.Recalled.{records_tell_changes}
use Rattle.resource_end.proofs.laws.records_tell_changes.Goals as goal

pub returns : goal.returns
returns c = records_tell_changes
