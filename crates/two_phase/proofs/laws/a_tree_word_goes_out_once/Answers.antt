use Rattle.two_phase.proofs.Once.{no_word_twice}
use Rattle.two_phase.proofs.laws.a_tree_word_goes_out_once.Goals as goal

pub returns : goal.returns
returns c = no_word_twice
