use Rattle.std.proofs.Common.{◌≡◌, ◌∙◌, sym, ap, Bool, false, is_some, is_none}
use Rattle.ots_model.specs.declared.completion.CallNumber.{CallNumber}
use Rattle.resource_votes.specs.Ballots.{participants}
use Rattle.two_phase.specs.Course.{Course, begun}
use Rattle.two_phase.specs.Stages as stages
use Rattle.two_phase.specs.Stages.{Standing}
use Rattle.coordinator.specs.Closing.{asked_ones}
use Rattle.coordinator.specs.Family.{number_of}
use Rattle.coordinator.specs.declared.call.Stage.TheVariants.{Completing}
use Rattle.family_rules.specs.Room.{StateParts}
use Rattle.family_rules.specs.StateInside.{unroomed}
use Rattle.family_rules.proofs.Closes.{begins_now, is_not}
use Rattle.family_rules.proofs.Kept.{has_room}
use Rattle.family_rules.proofs.state.State.begin_asking.Goals as goal

pub start-requires-clause-room : goal.start-requires-clause-room
start-requires-clause-room c =
    let none : is_some (stages.number c.self.inside.completion) ≡ false = cc in
    has_room c.self.inside.completion c.self.inside.votes.ballots c.self.invariant.places c.self.invariant.lists none

pub returns-clause-moved : goal.returns-clause-moved
returns-clause-moved c =
    let f = c.args.self.now.family in
    let s = c.self.inside.completion in
    let none : is_some (stages.number s) ≡ false = cc in
    let first : Course = begun (asked_ones f) c.args.asked (number_of f 1) (is_none f.superior) in
    let starts : c.start.new.self ≡ stages.Going first =
    c.start.ensures.started
    ∙ (ap (λ (n : CallNumber). stages.Going (begun (participants 0 c.self.inside.votes.ballots) c.args.asked n c.is_none-is_root.result)) c.number_of-first.ensures
    ∙ (ap (λ (r : Bool). stages.Going (begun (participants 0 c.self.inside.votes.ballots) c.args.asked (record { life = c.self.inside.key.life; slot = c.self.inside.key.slot; generation = c.self.inside.key.generation; serial = 1 }) r)) (is_not (is_some c.self.inside.superior) c.is_none-is_root.result c.is_none-is_root.ensures)
    ∙ ap (λ (v : StateParts). stages.Going (begun (asked_ones v.family) c.args.asked (number_of v.family 1) (is_none v.family.superior))) c.self.view_is)) in
    begins_now f _ c.args.out.now c.show_fixed.new.self s first c.start.new.self c.outcome.result
    (ap (λ (v : StateParts). v.family.completion) (sym c.self.view_is))
    none starts
    (ap (λ (v : StateParts). record v.family { stage = Completing; completion = unroomed c.start.new.self }) c.self.view_is)
    c.outcome.ensures.outcome c.show_fixed.ensures.shown
