use Rattle.node_laws.proofs.Voters.{decisions_name_voters}
use Rattle.node_laws.proofs.laws.decisions_name_voters.Goals as goal

pub returns : goal.returns
returns c = decisions_name_voters (record {
  append = c.families_append_own.ensures;
  words = c.families_number_words.ensures;
  sound = c.families_stay_sound.ensures;
  nodes = c.nodes_keep_rules.ensures;
  rest = c.commits_rest.ensures;
})
