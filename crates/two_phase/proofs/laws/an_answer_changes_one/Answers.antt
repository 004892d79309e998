use Rattle.two_phase.proofs.Answered.{heard_is}
use Rattle.two_phase.proofs.laws.an_answer_changes_one.Goals as goal

pub returns : goal.returns
returns c = heard_is
