use Rattle.std.proofs.Common.{◌≡◌, ◌∙◌, refl, ap, subst, ◌<◌, length, arith, Option}
use Rattle.family_rules.specs.Calls.{AreTasks, left_at, told_in}
use Rattle.coordinator.specs.Family.{call_at}
use Rattle.family_rules.specs.Room.{StateParts}
use Rattle.family_rules.specs.StateInside.{shown}
use Rattle.std.specs.List.{slice_get}
use Rattle.std.specs.Option.{option_and_then, IfSome, IsSome}
use Rattle.resource_votes.specs.Ballots.{numbered}
use Rattle.family_rules.specs.declared.call.Task.{Task}
use Rattle.family_rules.specs.Calls.{duty_in}
use Rattle.family_rules.proofs.AtSeat.{first_is, first_task_there, still_tasks, tells_first}
use Rattle.family_rules.proofs.Kept.{tasks_at, tasks_set}
use Rattle.family_rules.proofs.Tallied.{tallied_told}
use Rattle.family_rules.specs.Outs.{out_of}
use Rattle.family_rules.specs.declared.call.Call.{Call as KeptCall}
use Rattle.family_rules.proofs.Waited.{outs_kept}
use Rattle.family_rules.proofs.state.State.take_left.Goals as goal

pub invariant_of-self : goal.invariant_of-self
invariant_of-self c =
    let rs = c.self.inside.votes.ballots.registrations in
    let seats = c.self.inside.seats.items in
    let b = c.args.branch in
    let rows = ap (λ (v : StateParts). length v.family.rows) c.self.view_is in
    let within : b < length seats = omega (arith, c.requires.there, rows, c.self.invariant.seats, c.self.inside.seats.ok.0) in
    let s = c.index_mut.result.now in
    let all : AreTasks rs s.left.items = tasks_at rs seats b s within c.self.invariant.tasks c.index_mut.ensures.value in
    record {
      few = c.self.invariant.few;
      serial = c.self.invariant.serial;
      seats = c.self.invariant.seats;
      synchronizations = c.self.invariant.synchronizations;
      order = c.self.invariant.order;
      synchronization_order = c.self.invariant.synchronization_order;
      lists = c.self.invariant.lists;
      once = c.self.invariant.once;
      tasks = tasks_set rs seats b c.take_task.new.seat c.self.invariant.tasks (still_tasks rs s c.take_task.new.seat.left.items c.take_task.ensures.left all);
      places = c.self.invariant.places;
      tally = tallied_told c.self.inside.tally seats b s c.take_task.new.seat within c.index_mut.ensures.value c.self.invariant.tally c.take_task.ensures.call c.take_task.ensures.left;
      outs = outs_kept c.self.inside.outs.words seats b s c.take_task.new.seat within c.index_mut.ensures.value c.self.invariant.outs (ap (λ (o : Option KeptCall). out_of o) c.take_task.ensures.call);
      outs_room = c.self.invariant.outs_room;
      top = c.self.invariant.top;
    }

pub returns-clause-first : goal.returns-clause-first
returns-clause-first c =
    let rs = c.self.inside.votes.ballots.registrations in
    let seats = c.self.inside.seats.items in
    let b = c.args.branch in
    let rows = ap (λ (v : StateParts). length v.family.rows) c.self.view_is in
    let within : b < length seats = omega (arith, c.requires.there, rows, c.self.invariant.seats, c.self.inside.seats.ok.0) in
    let s = c.index_mut.result.now in
    let all : AreTasks rs s.left.items = tasks_at rs seats b s within c.self.invariant.tasks c.index_mut.ensures.value in
    subst (λ (v : StateParts). option_and_then (duty_in v.family.ballots.registrations) c.take_task.result ≡ slice_get (left_at v.family b) 0) c.self.view_is
    (first_is (shown c.self.inside).family rs seats b s c.take_task.result c.take_task.ensures.first all refl within c.index_mut.ensures.value)

pub returns-clause-rest : goal.returns-clause-rest
returns-clause-rest c =
    let rs = c.self.inside.votes.ballots.registrations in
    let seats = c.self.inside.seats.items in
    let b = c.args.branch in
    let rows = ap (λ (v : StateParts). length v.family.rows) c.self.view_is in
    let within : b < length seats = omega (arith, c.requires.there, rows, c.self.invariant.seats, c.self.inside.seats.ok.0) in
    let s = c.index_mut.result.now in
    let all : AreTasks rs s.left.items = tasks_at rs seats b s within c.self.invariant.tasks c.index_mut.ensures.value in
    tells_first (shown c.self.inside).family rs seats b s c.take_task.new.seat c.take_task.ensures.call c.take_task.ensures.left all refl within c.index_mut.ensures.value
    ∙ ap (λ (v : StateParts). told_in (call_at v.family b) b v.family) c.self.view_is

pub returns-clause-there : goal.returns-clause-there
returns-clause-there c =
    let rs = c.self.inside.votes.ballots.registrations in
    let seats = c.self.inside.seats.items in
    let b = c.args.branch in
    let rows = ap (λ (v : StateParts). length v.family.rows) c.self.view_is in
    let within : b < length seats = omega (arith, c.requires.there, rows, c.self.invariant.seats, c.self.inside.seats.ok.0) in
    let s = c.index_mut.result.now in
    let all : AreTasks rs s.left.items = tasks_at rs seats b s within c.self.invariant.tasks c.index_mut.ensures.value in
    subst (λ (v : StateParts). IfSome c.take_task.result (λ (t : Task). IsSome (numbered v.family.ballots.registrations t.registration))) c.self.view_is
    (first_task_there rs s c.take_task.result c.take_task.ensures.first all)
