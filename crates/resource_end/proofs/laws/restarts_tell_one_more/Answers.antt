use Rattle.resource_end.proofs.Crashing.{restarts_tell_one_more}
use Rattle.resource_end.proofs.laws.restarts_tell_one_more.Goals as goal

pub returns : goal.returns
returns c = restarts_tell_one_more
