use Rattle.std.proofs.Common.{◌≡◌, ◌∙◌, sym, ap, subst, List, ◌∷◌, ◌++◌, Option, Some}
use Rattle.std.specs.Option.{option_to_list}
use Rattle.family_rules.specs.Calls.{AreTasks, duties_in, duty_in, plain_call}
use Rattle.family_rules.specs.Changes.{DraftParts}
use Rattle.coordinator.specs.Family.{Family, Call, Duty, with_call}
use Rattle.family_rules.specs.declared.call.Task.{Task}
use Rattle.family_rules.proofs.Duties.{duty_of}
use Rattle.family_rules.proofs.Posted.{tells}
use Rattle.family_rules.proofs.state.State.tell_gathered.Goals as goal

pub returns-clause-does : goal.returns-clause-does
returns-clause-does c = λ d others is.
    let f = c.args.self.now.family in
    let rs = f.ballots.registrations in
    let b = c.args.branch in
    let t = c.unwrap-task.result in
    let rest = c.pop_front.new.self.items in
    let had : c.out.inside.tasks.items ≡ c.args.out.now.changes.tasks = ap (λ (x : DraftParts). x.changes.tasks) c.out.view_is in
    let some : c.pop_front.result ≡ Some t = cc in
    let all : c.out.inside.tasks.items ≡ t ∷ rest = c.pop_front.ensures.items ∙ ap (λ (o : Option Task). option_to_list o ++ rest) some in
    let tasks : AreTasks rs (t ∷ rest) = subst (λ (xs : List Task). AreTasks rs xs) (sym had ∙ all) c.requires.tasks in
    let first = duty_of rs t rest tasks.0 in
    let both : first.duty ∷ duties_in rs rest ≡ d ∷ others = sym first.first ∙ (ap (λ (xs : List Task). duties_in rs xs) (sym all ∙ had) ∙ is) in
    let duty : first.duty ≡ d = cc (both) in
    let left : duties_in rs rest ≡ others = cc (both) in
    let call : Call = record (plain_call c.args.call) { left = others } in
    tells f c.keep_gathered.new.self.family c.post_task.new.self.family c.args.out.now c.keep_gathered.new.out c.post_task.new.out b call d
    (c.keep_gathered.ensures.family ∙ ap (λ (ds : List Duty). with_call b (record (plain_call c.args.call) { left = ds }) f) left)
    (c.keep_gathered.ensures.call ∙ ap (λ (ds : List Duty). Some (record (plain_call c.args.call) { left = ds })) left)
    c.post_task.ensures.family
    (c.keep_gathered.ensures.others ∙ ap (λ (x : DraftParts). record x.changes { tasks = c.keep_gathered.new.out.changes.tasks }) c.out.view_is)
    c.requires.quiet
    (c.post_task.ensures.sent d
    (ap (λ (x : Family). duty_in x.ballots.registrations t) c.keep_gathered.ensures.family ∙ (first.is ∙ ap (λ (y : Duty). Some y) duty)))
