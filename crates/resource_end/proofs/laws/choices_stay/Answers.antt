use Rattle.resource_end.proofs.Stored.{choices_stay}
use Rattle.resource_end.proofs.laws.choices_stay.Goals as goal

pub returns : goal.returns
returns c = choices_stay
