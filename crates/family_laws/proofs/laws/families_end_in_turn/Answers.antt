use Rattle.family_laws.proofs.Steps.{families_end_in_turn}
use Rattle.family_laws.proofs.laws.families_end_in_turn.Goals as goal

pub returns : goal.returns
returns c = families_end_in_turn c.laws_below.ensures
