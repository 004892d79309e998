use Rattle.node_laws.proofs.Numbered.{numbers_are_once}
use Rattle.node_laws.proofs.laws.numbers_are_once.Goals as goal

pub returns : goal.returns
returns c = numbers_are_once c.families_number_words.ensures c.nodes_keep_numbers.ensures
