use Rattle.resource_end.proofs.Stored.{puts_are_stored}
use Rattle.resource_end.proofs.laws.puts_are_stored.Goals as goal

pub returns : goal.returns
returns c = puts_are_stored
