use Rattle.coordinator.proofs.Numbers.{lives_rise}
use Rattle.coordinator.proofs.laws.lives_rise.Goals as goal

pub returns : goal.returns
returns c = lives_rise
