use Rattle.std.proofs.Common.{◌≡◌, ◌+◌, length, sym, ◌∙◌, arith, rules}
use Rattle.resource_votes.proofs.ChainLemmas.{chain_step, walk_short}
use Rattle.resource_votes.proofs.links.NumbersIterator.next.Goals as goal

pub invariant_of-self : goal.invariant_of-self
invariant_of-self c =
    let at_is : c.self.inside.at ≡ c.in_ok-place.place + 1 = omega arith in
    (chain_step c.self.inside.next.now (length c.self.inside.next.now) c.self.inside.at c.in_ok-place.place _ at_is c.self.invariant (walk_short (length c.self.inside.next.now) _ _)).1

pub returns-clause-steps : goal.returns-clause-steps
returns-clause-steps c =
    let at_is : c.self.inside.at ≡ c.in_ok-place.place + 1 = omega arith in
    sym c.self.view_is
    ∙ (chain_step c.self.inside.next.now (length c.self.inside.next.now) c.self.inside.at c.in_ok-place.place _ at_is c.self.invariant (walk_short (length c.self.inside.next.now) _ _)).0

pub returns-clause-goes : goal.returns-clause-goes
returns-clause-goes c = rw (returns-clause-steps c) (search rules)
