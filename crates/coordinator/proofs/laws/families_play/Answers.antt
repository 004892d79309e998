use Rattle.coordinator.proofs.Played.{families_play}
use Rattle.coordinator.proofs.laws.families_play.Goals as goal

pub returns : goal.returns
returns c = families_play
