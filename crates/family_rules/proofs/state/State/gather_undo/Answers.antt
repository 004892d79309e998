use Rattle.std.proofs.Common.{◌≡◌, ◌∙◌, sym, ap, subst, ◌++◌, List, map, append_assoc}
use Rattle.resource_votes.specs.Ballots.{Ballots, participants}
use Rattle.resource_votes.specs.Lists.{list_at}
use Rattle.resource_votes.specs.declared.registration.Registration.{Registration}
use Rattle.family_rules.specs.Calls.{AreTasks, duties_in, task_to}
use Rattle.family_rules.specs.Changes.{DraftParts}
use Rattle.coordinator.specs.Family.{Duty}
use Rattle.coordinator.specs.declared.call.Ending.TheVariants.{TellsRollback, RollsBackUpdates}
use Rattle.family_rules.specs.Room.{StateParts}
use Rattle.coordinator.specs.Running.{aware_of, duty_to, undo_duties}
use Rattle.family_rules.specs.declared.call.Task.{Task}
use Rattle.family_rules.proofs.Duties.{duties_joined, found_duties, found_tasks, tasks_joined}
use Rattle.family_rules.proofs.state.State.gather_undo.Goals as goal

pub returns-clause-gathered : goal.returns-clause-gathered
unfolding undo_duties
returns-clause-gathered c =
    let f = c.args.self.now.family in
    let rs = f.ballots.registrations in
    let b = c.args.branch in
    let ours : c.self.inside.votes.ballots ≡ f.ballots = ap (λ (v : StateParts). v.family.ballots) c.self.view_is in
    let undone : List Registration = participants b c.self.inside.votes.ballots in
    let found : duties_in rs (map (task_to RollsBackUpdates) undone) ≡ map (duty_to RollsBackUpdates) (participants b f.ballots) =
    ap (λ (x : Ballots). duties_in x.registrations (map (task_to RollsBackUpdates) undone)) (sym ours)
    ∙ (found_duties c.self.inside.votes.ballots.registrations RollsBackUpdates (list_at c.self.inside.votes.ballots.lists b) c.self.invariant.order
    ∙ ap (λ (x : Ballots). map (duty_to RollsBackUpdates) (participants b x)) ours) in
    let before : c.out.inside.tasks.items ≡ c.gather_aware.new.out.changes.tasks = ap (λ (d : DraftParts). d.changes.tasks) c.out.view_is in
    let told : List Duty = map (duty_to TellsRollback) (aware_of f.ballots b) in
    let back : List Duty = map (duty_to RollsBackUpdates) (participants b f.ballots) in
    let had : List Duty = duties_in rs c.args.out.now.changes.tasks in
    let joined : (had ++ told) ++ back ≡ had ++ (told ++ back) = simp append_assoc in
    ap (λ (xs : List Task). duties_in rs xs)
    (c.add_undo.ensures.items ∙ ap (λ (ys : List Registration). c.out.inside.tasks.items ++ map (task_to RollsBackUpdates) ys) c.participants.ensures.participants)
    ∙ (duties_joined rs c.out.inside.tasks.items (map (task_to RollsBackUpdates) undone)
    ∙ (ap (λ (ds : List Duty). duties_in rs c.out.inside.tasks.items ++ ds) found
    ∙ (ap (λ (ds : List Duty). ds ++ back) (ap (λ (xs : List Task). duties_in rs xs) before ∙ c.gather_aware.ensures.gathered)
    ∙ joined)))

pub returns-clause-tasks : goal.returns-clause-tasks
returns-clause-tasks c =
    let f = c.args.self.now.family in
    let rs = f.ballots.registrations in
    let b = c.args.branch in
    let ours : c.self.inside.votes.ballots ≡ f.ballots = ap (λ (v : StateParts). v.family.ballots) c.self.view_is in
    let undone : List Registration = participants b c.self.inside.votes.ballots in
    let found : AreTasks rs (map (task_to RollsBackUpdates) undone) =
    subst (λ (x : Ballots). AreTasks x.registrations (map (task_to RollsBackUpdates) undone)) ours
    (found_tasks c.self.inside.votes.ballots.registrations RollsBackUpdates (list_at c.self.inside.votes.ballots.lists b) c.self.invariant.order) in
    let before : c.out.inside.tasks.items ≡ c.gather_aware.new.out.changes.tasks = ap (λ (d : DraftParts). d.changes.tasks) c.out.view_is in
    let first : AreTasks rs c.out.inside.tasks.items = subst (λ (xs : List Task). AreTasks rs xs) (sym before) c.gather_aware.ensures.tasks in
    subst (λ (xs : List Task). AreTasks rs xs)
    (sym (c.add_undo.ensures.items ∙ ap (λ (ys : List Registration). c.out.inside.tasks.items ++ map (task_to RollsBackUpdates) ys) c.participants.ensures.participants))
    (tasks_joined rs c.out.inside.tasks.items (map (task_to RollsBackUpdates) undone) first found)
