use Rattle.std.proofs.Common.{arith}
use Rattle.resource_votes.specs.Ballots.{numbered}
use Rattle.resource_votes.proofs.Few.{found_few}
use Rattle.resource_votes.proofs.votes.Votes.participants.Goals as goal

pub returns-clause-few : goal.returns-clause-few
returns-clause-few c =
    let found = found_few (numbered c.as_slice.result.now) c.numbers.result in
    omega (arith, found, c.numbers.ensures.few, c.self.invariant.numbers, c.self.invariant.few)
