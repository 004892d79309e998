use Rattle.std.proofs.Common.{◌≡◌, ◌∙◌, refl, sym, ap, subst, ◌+◌, false, List, [], ◌∷◌, drop, length, Option, Some, None}
use Rattle.std.specs.List.{slice_get}
use Rattle.std.specs.Option.{option_and_then}
use Rattle.family_rules.specs.Calls.{duty_in, plain_call, told_in}
use Rattle.family_rules.specs.Changes.{so_far}
use Rattle.coordinator.specs.Family.{Family, Call, Duty, call_at, with_call}
use Rattle.family_rules.specs.Going.{CanGo}
use Rattle.coordinator.specs.Moves.{after}
use Rattle.coordinator.specs.Running.{by_leg, is_held}
use Rattle.family_rules.specs.declared.call.Task.{Task}
use Rattle.family_rules.proofs.Duties.{duty_of}
use Rattle.family_rules.proofs.Posted.{tells}
use Rattle.family_rules.proofs.RunsOn.{call_put, go_held, go_legs, go_tells, held_is, left_of_call, none_first, split_first, untold}
use Rattle.family_rules.proofs.state.State.go_on_with.Goals as goal

pub returns-then-is_held-clause-does : goal.returns-then-is_held-clause-does
returns-then-is_held-clause-does c =
    let f = c.args.self.now.family in
    let d = c.args.out.now in
    let b = c.args.branch in
    let k : Call = record (plain_call c.args.call) { left = c.requires.call.0 } in
    let at : call_at f b ≡ Some k = c.requires.call.1 in
    go_held f d b k at (sym (held_is f b k at) ∙ (sym c.is_held.ensures ∙ c.if-is_held.true))

pub go_by_leg-requires-clause-can : goal.go_by_leg-requires-clause-can
go_by_leg-requires-clause-can c =
    let f = c.args.self.now.family in
    let d = c.args.out.now in
    let b = c.args.branch in
    let k : Call = record (plain_call c.args.call) { left = c.requires.call.0 } in
    let at : call_at f b ≡ Some k = c.requires.call.1 in
    let none : slice_get k.left 0 ≡ None =
    sym (ap (λ (ds : List Duty). slice_get ds 0) (left_of_call f b k at))
    ∙ (sym c.take_left.ensures.first ∙ ap (λ (o : Option Task). option_and_then (duty_in f.ballots.registrations) o) c.in-None.is) in
    let left : k.left ≡ [] = none_first k.left none in
    let same : c.take_left.new.self.family ≡ f = untold f c.take_left.new.self.family b k at c.take_left.ensures.rest left in
    subst (λ (x : Family). CanGo (length x.rows + 3) x d) (sym same) c.requires.can

pub returns-in-Some-clause-does : goal.returns-in-Some-clause-does
returns-in-Some-clause-does c =
    let f = c.args.self.now.family in
    let d = c.args.out.now in
    let b = c.args.branch in
    let k : Call = record (plain_call c.args.call) { left = c.requires.call.0 } in
    let at : call_at f b ≡ Some k = c.requires.call.1 in
    let free : is_held b k f ≡ false = sym (held_is f b k at) ∙ (sym c.is_held.ensures ∙ c.if-is_held.false) in
    let rs = f.ballots.registrations in
    let t = c.in-Some.task in
    let first = duty_of rs t [] c.in-Some.ensures.there in
    let found : slice_get k.left 0 ≡ Some first.duty =
    sym (ap (λ (ds : List Duty). slice_get ds 0) (left_of_call f b k at))
    ∙ (sym c.take_left.ensures.first ∙ (ap (λ (o : Option Task). option_and_then (duty_in rs) o) c.in-Some.is ∙ first.is)) in
    let others : List Duty = drop 1 k.left in
    let left : k.left ≡ first.duty ∷ others = split_first k.left first.duty found in
    let now : Call = record k { left = others } in
    let put : c.take_left.new.self.family ≡ with_call b now f = c.take_left.ensures.rest ∙ ap (λ (o : Option Call). told_in o b f) at in
    go_tells f c.post_task.new.self.family d c.post_task.new.out b k first.duty others at free left
    (tells f c.take_left.new.self.family c.post_task.new.self.family d d c.post_task.new.out b now first.duty
    put (ap (λ (x : Family). call_at x b) put ∙ call_put f b k now at)
    c.post_task.ensures.family refl c.requires.can.quiet
    (c.post_task.ensures.sent first.duty (ap (λ (x : Family). duty_in x.ballots.registrations t) put ∙ first.is)))

pub returns-in-None-clause-does : goal.returns-in-None-clause-does
returns-in-None-clause-does c =
    let f = c.args.self.now.family in
    let d = c.args.out.now in
    let b = c.args.branch in
    let k : Call = record (plain_call c.args.call) { left = c.requires.call.0 } in
    let at : call_at f b ≡ Some k = c.requires.call.1 in
    let free : is_held b k f ≡ false = sym (held_is f b k at) ∙ (sym c.is_held.ensures ∙ c.if-is_held.false) in
    let none : slice_get k.left 0 ≡ None =
    sym (ap (λ (ds : List Duty). slice_get ds 0) (left_of_call f b k at))
    ∙ (sym c.take_left.ensures.first ∙ ap (λ (o : Option Task). option_and_then (duty_in f.ballots.registrations) o) c.in-None.is) in
    let left : k.left ≡ [] = none_first k.left none in
    let same : c.take_left.new.self.family ≡ f = untold f c.take_left.new.self.family b k at c.take_left.ensures.rest left in
    go_legs f c.go_by_leg.new.self.family d c.go_by_leg.new.out b k at free left
    (c.go_by_leg.ensures.does
    ∙ (ap (λ (x : Family). after (so_far x d) (by_leg c.args.call.leg b (plain_call c.args.call) x)) same
    ∙ ap (λ (ds : List Duty). after (so_far f d) (by_leg c.args.call.leg b (record (plain_call c.args.call) { left = ds }) f)) (sym left)))
