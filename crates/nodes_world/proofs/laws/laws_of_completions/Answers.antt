use Rattle.nodes_world.proofs.laws.laws_of_completions.Goals as goal

pub returns : goal.returns
returns c = record {
  causes = c.tree_outcomes_have_causes.ensures;
  waits = c.a_tree_word_waits_for_its_answer.ensures.out;
  changes = c.an_answer_changes_one.ensures;
}
