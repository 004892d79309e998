use Rattle.two_phase.proofs.Settling.{nothing_pending, pending_nothing, settled, through}
use Rattle.two_phase.proofs.SettledSilent.{settled_is_silent}
use Rattle.two_phase.proofs.laws.a_settled_one_is_through.Goals as goal

pub returns-clause-through : goal.returns-clause-through
returns-clause-through c = λ course. (through course, settled course)

pub returns-clause-pending : goal.returns-clause-pending
returns-clause-pending c = λ course basis is. (nothing_pending course basis is, pending_nothing course basis is)

pub returns-clause-silent : goal.returns-clause-silent
returns-clause-silent c = settled_is_silent
