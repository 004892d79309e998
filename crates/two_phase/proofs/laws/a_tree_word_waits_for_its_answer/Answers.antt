use Rattle.two_phase.proofs.Opened.{errand_open}
use Rattle.two_phase.proofs.Stays.{goes}
use Rattle.two_phase.proofs.laws.a_tree_word_waits_for_its_answer.Goals as goal

pub returns-clause-next : goal.returns-clause-next
returns-clause-next c = errand_open

pub returns-clause-out : goal.returns-clause-out
returns-clause-out c = goes
