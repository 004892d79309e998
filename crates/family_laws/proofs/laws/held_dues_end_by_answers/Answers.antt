use Rattle.family_laws.proofs.Dues.{held_dues_end_by_answers}
use Rattle.family_laws.proofs.laws.held_dues_end_by_answers.Goals as goal

pub returns : goal.returns
returns c = held_dues_end_by_answers
