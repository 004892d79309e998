use Rattle.resource_end.proofs.Counting.{loads_tell_one_more}
use Rattle.resource_end.proofs.laws.loads_tell_one_more.Goals as goal

pub returns : goal.returns
returns c = loads_tell_one_more
