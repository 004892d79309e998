use Rattle.node_laws.proofs.Rests.{commits_rest}
use Rattle.node_laws.proofs.laws.commits_rest.Goals as goal

pub returns : goal.returns
returns c = commits_rest c.nodes_keep_rules.ensures (record {
  words = c.families_number_words.ensures;
  sound = c.families_stay_sound.ensures;
  rightly = c.families_step_rightly.ensures;
  tree = c.tree_words_go_rightly.ensures;
})
