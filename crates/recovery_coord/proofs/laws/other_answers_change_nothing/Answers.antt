use Rattle.recovery_coord.proofs.Lawful.{other_answers_change_nothing}
use Rattle.recovery_coord.proofs.laws.other_answers_change_nothing.Goals as goal

pub returns : goal.returns
returns c = other_answers_change_nothing
