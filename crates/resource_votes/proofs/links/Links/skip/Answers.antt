use Rattle.std.proofs.Common.{◌∙◌, ap}
use Rattle.resource_votes.specs.LinksInside.{NumberLists}
use Rattle.resource_votes.proofs.Joined.{grown_lists, grown_linked}
use Rattle.resource_votes.proofs.links.Links.skip.Goals as goal

pub invariant_of-self : goal.invariant_of-self
invariant_of-self c = record {
  size = c.self.invariant.size;
  are_linked = rw c.push_reserved.ensures.items (grown_linked _ _ c.self.invariant.are_linked);
}

pub returns-clause-same : goal.returns-clause-same
returns-clause-same c =
    rw c.push_reserved.ensures.items (grown_lists _ _ c.self.invariant.are_linked ∙ ap (λ (v : NumberLists). v.lists) c.self.view_is)
