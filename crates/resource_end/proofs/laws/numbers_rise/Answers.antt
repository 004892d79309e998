use Rattle.resource_end.proofs.Counting.{numbers_rise}
use Rattle.resource_end.proofs.laws.numbers_rise.Goals as goal

pub returns : goal.returns
returns c = numbers_rise
