use Rattle.std.proofs.Common.{◌≤◌, subst, refl, length}
use Rattle.coordinator.specs.Family.{call_at}
use Rattle.coordinator.specs.Running.{left_by}
use Rattle.family_rules.specs.Room.{StateParts}
use Rattle.family_rules.specs.StateInside.{shown}
use Rattle.family_rules.proofs.Lefts.{most_is}
use Rattle.family_rules.proofs.state.State.most_left.Goals as goal

pub returns : goal.returns
returns c = λ b.
    let s = c.self.inside in
    subst (λ (p : StateParts). length (left_by (call_at p.family b)) ≤ s.tally.most) c.self.view_is
    (most_is (shown s).family s.votes.ballots.registrations s.seats.items b s.tally.most refl c.self.invariant.tally.left)
