use Rattle.two_phase.proofs.Rests.{votes_is}
use Rattle.two_phase.proofs.laws.votes_decide.Goals as goal

pub returns : goal.returns
returns c = votes_is
