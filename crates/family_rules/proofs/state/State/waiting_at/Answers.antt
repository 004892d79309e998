use Rattle.std.proofs.Common.{◌∙◌, refl, ap, position}
use Rattle.coordinator.specs.Family.{has_out}
use Rattle.family_rules.specs.Room.{StateParts}
use Rattle.family_rules.specs.StateInside.{shown}
use Rattle.family_rules.proofs.AtSeat.{placed}
use Rattle.family_rules.proofs.Waited.{first_out}
use Rattle.family_rules.proofs.state.State.waiting_at.Goals as goal

pub returns : goal.returns
returns c =
    let rs = c.self.inside.votes.ballots.registrations in
    let seats = c.self.inside.seats.items in
    let at = c.args.serial in
    first_out c.self.inside.outs.words seats at c.first_of.result c.self.invariant.outs c.first_of.ensures
    ∙ (placed (shown c.self.inside).family rs at seats refl
    ∙ ap (λ (v : StateParts). position (has_out at) v.family.calls) c.self.view_is)
