use Rattle.two_phase.proofs.Own.{own_numbers, hears_once}
use Rattle.two_phase.proofs.laws.a_participant_hears_once.Goals as goal

pub returns-clause-numbers : goal.returns-clause-numbers
returns-clause-numbers c = own_numbers c.participants_are_committed_up.ensures

pub returns-clause-once : goal.returns-clause-once
returns-clause-once c = hears_once c.participants_are_committed_up.ensures
