use Rattle.node_laws.proofs.Rules.{nodes_keep_rules}
use Rattle.node_laws.proofs.laws.nodes_keep_rules.Goals as goal

pub returns : goal.returns
returns c = nodes_keep_rules c.nodes_keep_decisions.ensures c.nodes_keep_numbers.ensures (record {
  append = c.families_append_own.ensures;
  close = c.families_close_last.ensures;
  words = c.families_number_words.ensures;
  rightly = c.families_step_rightly.ensures;
  outcomes = c.family_outcomes_stay.ensures;
  stays = c.a_tree_outcome_stays.ensures;
  waits = c.a_tree_word_waits_for_its_answer.ensures.out;
  causes = c.tree_outcomes_have_causes.ensures;
  settled = c.a_settled_one_is_through.ensures.through;
})
