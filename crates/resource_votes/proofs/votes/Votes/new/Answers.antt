use Rattle.std.proofs.Common.{List, [], ℕ, ap}
use Rattle.resource_votes.specs.Ballots.{Ballots}
use Rattle.resource_votes.proofs.votes.Votes.new.Goals as goal

with_lists : List (List ℕ) → Ballots
with_lists lists = record { registrations = []; votes = []; synchronizations = []; lists = lists }

pub returns : goal.returns
unfolding with_lists
returns c = record { none = rw (c.new.ensures.items, c.new-2.ensures.items, c.new-3.ensures.items) (ap with_lists c.in_ok-new.ensures.empty) }
