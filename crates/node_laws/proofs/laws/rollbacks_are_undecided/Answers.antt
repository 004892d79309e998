use Rattle.node_laws.proofs.Undecided.{rollbacks_are_undecided}
use Rattle.node_laws.proofs.laws.rollbacks_are_undecided.Goals as goal

pub returns : goal.returns
returns c = rollbacks_are_undecided (record {
  nodes = c.nodes_keep_rules.ensures;
  numbers = c.nodes_keep_numbers.ensures;
  append = c.families_append_own.ensures;
  words = c.families_number_words.ensures;
  rest = c.families_words_rest.ensures;
  outcomes = c.family_outcomes_stay.ensures;
})
