use Rattle.recovery_coord.proofs.Lawful.{completes_once}
use Rattle.recovery_coord.proofs.laws.completes_once.Goals as goal

pub returns : goal.returns
returns c = completes_once
