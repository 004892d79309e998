use Rattle.two_phase.proofs.Deciding.{last_answer_decides}
use Rattle.two_phase.proofs.laws.the_last_answer_decides.Goals as goal

pub returns : goal.returns
returns c = last_answer_decides
