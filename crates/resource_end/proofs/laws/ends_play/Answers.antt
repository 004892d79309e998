use Rattle.resource_end.proofs.Played.{ends_play}
use Rattle.resource_end.proofs.laws.ends_play.Goals as goal

pub returns : goal.returns
returns c = ends_play
