use Rattle.resource_votes.proofs.Members.{members}
use Rattle.resource_votes.proofs.laws.participants_are_committed_up.Goals as goal

pub returns : goal.returns
returns c = members c.commit_follows_parents.ensures c.trees_stay_trees.ensures
