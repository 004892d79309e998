use Rattle.std.proofs.Common.{◌≡◌, ◌≢◌, ◌∙◌, refl, sym, ap, Bool, false, ◌&&◌, is_none}
use Rattle.std.specs.List.{list_all}
use Rattle.family_rules.specs.Calls.{all_seated}
use Rattle.coordinator.specs.declared.call.Stage.{Stage}
use Rattle.coordinator.specs.declared.call.Stage.TheVariants.{Going, Finishing, Completing, Over}
use Rattle.family_rules.specs.Room.{StateParts}
use Rattle.coordinator.specs.Step.{is_ended, is_finished}
use Rattle.family_rules.proofs.Seated.{none_seated}
use Rattle.family_rules.proofs.Tallied.{none_open}
use Rattle.family_rules.proofs.state.State.is_finished.Goals as goal

pub returns-in-Over : goal.returns-in-Over
unfolding is_finished
returns-in-Over c =
    let rs = c.self.inside.votes.ballots.registrations in
    let seats = c.self.inside.seats.items in
    none_open c.self.inside.tally seats c.self.invariant.tally
    ∙ (sym (none_seated rs seats)
    ∙ (sym (ap (λ (s : Stage). is_ended s && list_all is_none (all_seated rs seats)) c.in-Over.is)
    ∙ ap (λ (v : StateParts). is_ended v.family.stage && list_all is_none v.family.calls) c.self.view_is))

not_over : (s : Stage) → s ≢ Over → false ≡ is_ended s
not_over Going h = refl
not_over Finishing h = refl
not_over Completing h = refl
not_over Over h = absurd (h refl)

pub returns-in_default : goal.returns-in_default
unfolding is_finished
returns-in_default c =
    let rs = c.self.inside.votes.ballots.registrations in
    let seats = c.self.inside.seats.items in
    ap (λ (b : Bool). b && list_all is_none (all_seated rs seats)) (not_over c.self.inside.stage c.in_default.not-Over)
    ∙ ap (λ (v : StateParts). is_ended v.family.stage && list_all is_none v.family.calls) c.self.view_is
