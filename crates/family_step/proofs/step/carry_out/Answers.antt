use Rattle.std.proofs.Common.{◌≡◌, ◌∙◌, ◌<◌, ◌++◌, ap, sym, subst, ℕ, List, length, Option, Some}
use Rattle.std.specs.Option.{IfSome}
use Rattle.coordinator.specs.Limits.{history_limit}
use Rattle.coordinator.specs.Moves.{Moved}
use Rattle.coordinator.specs.Step.{Stepped, acted}
use Rattle.family_step.specs.Acting.{name_in, name_of_said}
use Rattle.family_step.proofs.Answered.{name_fits}
use Rattle.family_step.proofs.Entered.{all_of, answer_same, entered_same, room_for}
use Rattle.family_step.proofs.Steady.{acts_keep}
use Rattle.family_step.proofs.step.carry_out.Goals as goal

pub conclude-requires-clause-position : goal.conclude-requires-clause-position
conclude-requires-clause-position c =
    let f = c.args.state.now.family in
    let same = ap (λ (m : Moved). m.family.entries) c.act-said.ensures.acts.0 ∙ acts_keep c.args.ready.event c.args.stood f in
    c.requires.position ∙ ap (λ xs. length xs) (sym same)

pub conclude-requires-clause-few : goal.conclude-requires-clause-few
conclude-requires-clause-few c =
    let f = c.args.state.now.family in
    let e = c.args.ready.event in
    let same = ap (λ (m : Moved). m.family.entries) c.act-said.ensures.acts.0 ∙ acts_keep e c.args.stood f in
    subst (λ (n : ℕ). n < history_limit) (ap (λ xs. length xs) (sym same)) (room_for f.entries e c.requires.ready.fits c.requires.new)

pub conclude-requires-clause-name : goal.conclude-requires-clause-name
conclude-requires-clause-name c = λ y replied.
    let f = c.args.state.now.family in
    let r = c.args.ready in
    let e = r.event in
    let name : r.name_again ≡ name_in e.act e.branch f = c.requires.ready.ready.name_again in
    subst (λ (o : Option (List ℕ)). IfSome (name_of_said y) (λ n. o ≡ Some n)) (sym name) (name_fits e c.args.stood f c.act-said.result y c.act-said.ensures.acts.1 replied)

pub returns-clause-family : goal.returns-clause-family
returns-clause-family c =
    let f = c.args.state.now.family in
    let r = c.args.ready in
    let e = r.event in
    let a = acted e c.args.stood f in
    let g = c.act-said.new.state.family in
    let k = c.act-said.new.out in
    let all = all_of f g r.draft k a.moved c.requires.ready.ready.nothing c.act-said.ensures.acts.0 in
    let same = ap (λ (m : Moved). m.family.entries) c.act-said.ensures.acts.0 ∙ acts_keep e c.args.stood f in
    c.conclude.ensures.family ∙ ap (λ (s : Stepped). s.family) (entered_same f g e c.args.stood k c.act-said.result a all c.act-said.ensures.acts.1 same)

pub returns-clause-answer : goal.returns-clause-answer
returns-clause-answer c =
    let f = c.args.state.now.family in
    let r = c.args.ready in
    let e = r.event in
    let a = acted e c.args.stood f in
    let g = c.act-said.new.state.family in
    let k = c.act-said.new.out in
    let all = all_of f g r.draft k a.moved c.requires.ready.ready.nothing c.act-said.ensures.acts.0 in
    let same = ap (λ (m : Moved). m.family.entries) c.act-said.ensures.acts.0 ∙ acts_keep e c.args.stood f in
    c.conclude.ensures.answer ∙ answer_same f g e c.args.stood k c.act-said.result a all c.act-said.ensures.acts.1 same

pub returns-clause-words : goal.returns-clause-words
returns-clause-words c =
    let f = c.args.state.now.family in
    let r = c.args.ready in
    let e = r.event in
    let a = acted e c.args.stood f in
    let g = c.act-said.new.state.family in
    let k = c.act-said.new.out in
    let all = all_of f g r.draft k a.moved c.requires.ready.ready.nothing c.act-said.ensures.acts.0 in
    let same = ap (λ (m : Moved). m.family.entries) c.act-said.ensures.acts.0 ∙ acts_keep e c.args.stood f in
    c.conclude.ensures.words
    ∙ ap (λ (s : Stepped). c.args.out.now.words ++ s.words) (entered_same f g e c.args.stood k c.act-said.result a all c.act-said.ensures.acts.1 same)
