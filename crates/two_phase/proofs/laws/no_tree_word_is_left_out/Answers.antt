use Rattle.two_phase.proofs.Silence.{silent}
use Rattle.two_phase.proofs.laws.no_tree_word_is_left_out.Goals as goal

pub returns : goal.returns
returns c = silent
