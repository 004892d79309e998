use Rattle.two_phase.proofs.Rests.{words_rest}
use Rattle.two_phase.proofs.laws.tree_words_go_rightly.Goals as goal

pub returns : goal.returns
returns c = words_rest
