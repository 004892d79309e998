use Rattle.std.proofs.Common.{◌≡◌, ◌∙◌, sym, ap, subst, ◌<◌, ◌++◌, false, true, List, length, arith, rules}
use Rattle.family_rules.specs.Calls.{AreTasks, duties_in}
use Rattle.coordinator.specs.Family.{Duty}
use Rattle.family_rules.specs.declared.call.Task.{Task}
use Rattle.family_rules.proofs.Duties.{gathers_none, gathers_one, task_there, tasks_joined}
use Rattle.family_rules.proofs.tasks.add_aware.Goals as goal

pub loop-place-preserved-then-not-is_aware : goal.loop-place-preserved-then-not-is_aware
loop-place-preserved-then-not-is_aware c =
    let rs = c.args.votes.now.ballots.registrations in
    let within : c.loop-place.place < length rs = omega (arith, c.loop-place-test.true, c.count-place-end.ensures.count) in
    let none : c.is_aware.result ≡ false = search rules in
    record {
      gathered = c.loop-place.invariant.gathered
          ∙ ap (λ (ds : List Duty). duties_in rs c.args.tasks.now.items ++ ds)
          (gathers_none rs c.args.ending c.args.branch c.loop-place.place within (sym c.is_aware.ensures ∙ none));
      tasks = c.loop-place.invariant.tasks;
      room = omega (arith, c.loop-place.invariant.room);
      capacity = c.loop-place.invariant.capacity;
    }

pub loop-place-preserved : goal.loop-place-preserved
loop-place-preserved c =
    let rs = c.args.votes.now.ballots.registrations in
    let within : c.loop-place.place < length rs = omega (arith, c.loop-place-test.true, c.count-place-end.ensures.count) in
    let some : c.is_aware.result ≡ true = search rules in
    record {
      gathered = ap (λ (xs : List Task). duties_in rs xs) c.push_back_reserved.ensures.items
          ∙ gathers_one rs c.args.ending c.args.branch c.loop-place.place c.loop-place.tasks.items (duties_in rs c.args.tasks.now.items) within
          (sym c.is_aware.ensures ∙ some) c.loop-place.invariant.gathered;
      tasks = subst (λ (xs : List Task). AreTasks rs xs) (sym c.push_back_reserved.ensures.items)
          (tasks_joined rs c.loop-place.tasks.items _ c.loop-place.invariant.tasks (task_there rs c.args.ending c.loop-place.place within));
      room = omega (arith, c.loop-place.invariant.room, c.push_back_reserved.ensures.len);
      capacity = c.push_back_reserved.ensures.capacity ∙ c.loop-place.invariant.capacity;
    }
