use Rattle.family_laws.proofs.laws.laws_below.Goals as goal

pub returns : goal.returns
returns c = record {
  top = c.parents_come_first.ensures.top;
  earlier = c.parents_come_first.ensures.first;
  keep = c.calls_keep_parents.ensures;
  grow = c.trees_stay_trees.ensures;
  stands = c.parents_come_first.ensures.stands;
  related = c.all_are_related.ensures;
  ancestry = c.ancestry_follows_parents.ensures;
  commits = c.commit_follows_parents.ensures;
  next = c.next_is_first.ensures;
  words = c.tree_words_go_rightly.ensures;
  votes = c.votes_decide.ensures;
  settled = c.a_settled_one_is_through.ensures.through;
}
