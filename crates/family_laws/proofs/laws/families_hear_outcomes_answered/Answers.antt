use Rattle.family_laws.proofs.OutcomesAnswered.{outcomes_answered}
use Rattle.family_laws.proofs.laws.families_hear_outcomes_answered.Goals as goal

pub returns : goal.returns
returns c = outcomes_answered
