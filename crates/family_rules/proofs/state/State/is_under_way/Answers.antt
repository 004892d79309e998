use Rattle.std.proofs.Common.{◌∙◌, sym, ap, List, is_some}
use Rattle.family_rules.specs.Calls.{has_call}
use Rattle.coordinator.specs.Family.{call_at}
use Rattle.family_rules.specs.Room.{StateParts}
use Rattle.family_rules.specs.declared.call.Seat.{Seat}
use Rattle.family_rules.proofs.Seated.{is_seated}
use Rattle.family_rules.proofs.state.State.is_under_way.Goals as goal

pub returns : goal.returns
returns c =
    c.has_call.ensures
    ∙ (ap (λ (xs : List Seat). has_call xs c.args.branch) c.deref.ensures.value
    ∙ (sym (is_seated c.self.inside.votes.ballots.registrations c.self.inside.seats.items c.args.branch)
    ∙ ap (λ (v : StateParts). is_some (call_at v.family c.args.branch)) c.self.view_is))
