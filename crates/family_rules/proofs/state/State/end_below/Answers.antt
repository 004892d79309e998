use Rattle.std.proofs.Common.{◌≡◌, ◌∙◌, ap, ◌+◌, false, List, length, arith}
use Rattle.std.proofs.lemmas.List.{length-set}
use Rattle.txn_tree.specs.Calls.{TreeParts, ended}
use Rattle.family_rules.specs.Changes.{Changes, DraftParts}
use Rattle.coordinator.specs.Family.{Family, Duty, without_call}
use Rattle.family_rules.specs.Room.{StateParts}
use Rattle.family_rules.specs.StateInside.{shown}
use Rattle.family_rules.proofs.Duties.{as_many}
use Rattle.family_rules.proofs.Going.{can_without}
use Rattle.family_rules.proofs.Lives.{sound_ended}
use Rattle.family_rules.proofs.state.State.end_below.Goals as goal

pub invariant_of-self : goal.invariant_of-self
invariant_of-self c = sound_ended c.self.inside c.close.new.self c.args.branch false c.self.invariant c.requires.below c.close.ensures

pub gather_undo-requires-clause-room : goal.gather_undo-requires-clause-room
gather_undo-requires-clause-room c =
    let g = c.vacate-caller.new.self.family in
    let out = c.vacate-caller.new.out in
    let many = as_many g.ballots.registrations out.changes.tasks c.vacate-caller.ensures.tasks in
    let few = ap (λ (ds : List Duty). length ds) c.vacate-caller.ensures.gathered in
    let same = ap (λ (x : Changes). length x.tasks) c.show_answered.ensures.shown in
    omega (arith, many, few, same, c.requires.can.tasks c.args.branch, c.vacate-caller.ensures.tasks_room, c.show_answered.ensures.tasks_room)

pub returns-clause-can : goal.returns-clause-can
returns-clause-can c = λ n can none.
    let f = c.args.self.now.family in
    let b = c.args.branch in
    let was : (shown c.self.inside).family ≡ without_call b f = ap (λ (v : StateParts). v.family) c.self.view_is ∙ c.vacate-caller.ensures.family in
    let kept : length (ended c.self.inside.tree.rows b false) ≡ length c.self.inside.tree.rows = simp length-set in
    let rows : length c.close.new.self.rows ≡ length f.rows =
    ap (λ (t : TreeParts). length t.rows) c.close.ensures ∙ (kept ∙ ap (λ (x : Family). length x.rows) was) in
    let gathers = c.gather_undo.ensures.others in
    let room = ap (λ (d : DraftParts). d.room) gathers in
    let tasks_room = ap (λ (d : DraftParts). d.tasks_room) gathers in
    can_without (n + 1) n b f _ c.args.out.now c.gather_undo.new.out rows
    (ap (λ (x : Family). x.serial) was) (ap (λ (x : Family). length x.entries) was) (ap (λ (x : Family). x.calls) was)
    (ap (λ (d : DraftParts). d.changes.words) gathers ∙ (ap (λ (x : Changes). x.words) c.show_answered.ensures.shown ∙ ap (λ (x : Changes). x.words) c.vacate-caller.ensures.others))
    none
    (omega (arith, room, c.show_answered.ensures.room, c.vacate-caller.ensures.room))
    (omega (arith, tasks_room, c.show_answered.ensures.tasks_room, c.vacate-caller.ensures.tasks_room))
    can
