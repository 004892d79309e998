use Rattle.std.proofs.Common.{◌∙◌, ap, List, refl}
use Rattle.family_rules.specs.Calls.{has_left, keeps_tasks}
use Rattle.family_rules.specs.Room.{StateParts}
use Rattle.family_rules.specs.StateInside.{shown}
use Rattle.family_rules.specs.declared.call.Seat.{Seat}
use Rattle.family_rules.proofs.AtSeat.{has_left_is}
use Rattle.family_rules.proofs.state.State.has_left.Goals as goal

pub returns : goal.returns
returns c =
    let rs = c.self.inside.votes.ballots.registrations in
    let seats = c.self.inside.seats.items in
    let at = c.args.branch in
    c.keeps_tasks.ensures
    ∙ (ap (λ (xs : List Seat). keeps_tasks xs at) c.deref.ensures.value
    ∙ (has_left_is (shown c.self.inside).family rs seats at refl c.self.invariant.tasks
    ∙ ap (λ (v : StateParts). has_left v.family at) c.self.view_is))
