use Rattle.std.proofs.Common.{◌∙◌, refl, sym, ap, subst, ◌<◌, length, slice_set, arith}
use Rattle.family_rules.specs.Calls.{AreTasks, all_seated, deciding_in}
use Rattle.coordinator.specs.Family.{call_at}
use Rattle.family_rules.specs.Room.{StateParts}
use Rattle.family_rules.specs.StateInside.{shown}
use Rattle.family_rules.specs.declared.call.Seat.{Seat}
use Rattle.family_rules.proofs.AtSeat.{call_decides}
use Rattle.family_rules.proofs.Kept.{tasks_at, tasks_set}
use Rattle.family_rules.proofs.Tallied.{tallied_deciding}
use Rattle.family_rules.proofs.Waited.{outs_deciding}
use Rattle.family_rules.proofs.state.State.begin_deciding.Goals as goal

pub invariant_of-self : goal.invariant_of-self
invariant_of-self c =
    let rs = c.self.inside.votes.ballots.registrations in
    let seats = c.self.inside.seats.items in
    let b = c.args.branch in
    let rows = ap (λ (v : StateParts). length v.family.rows) c.self.view_is in
    let within : b < length seats = omega (arith, c.requires.there, rows, c.self.invariant.seats, c.self.inside.seats.ok.0) in
    let all : AreTasks rs c.index_mut.result.now.left.items = tasks_at rs seats b c.index_mut.result.now within c.self.invariant.tasks c.index_mut.ensures.value in
    record {
      few = c.self.invariant.few;
      serial = c.self.invariant.serial;
      seats = c.self.invariant.seats;
      synchronizations = c.self.invariant.synchronizations;
      order = c.self.invariant.order;
      synchronization_order = c.self.invariant.synchronization_order;
      lists = c.self.invariant.lists;
      once = c.self.invariant.once;
      tasks = tasks_set rs seats b c.set_deciding.new.seat c.self.invariant.tasks (subst (λ (x : Seat). AreTasks rs x.left.items) (sym c.set_deciding.ensures) all);
      places = c.self.invariant.places;
      tally = tallied_deciding c.self.inside.tally seats b c.index_mut.result.now c.set_deciding.new.seat within c.index_mut.ensures.value c.self.invariant.tally c.set_deciding.ensures;
      outs = outs_deciding c.self.inside.outs.words seats b c.index_mut.result.now c.set_deciding.new.seat within c.index_mut.ensures.value c.self.invariant.outs c.set_deciding.ensures;
      outs_room = c.self.invariant.outs_room;
      top = c.self.invariant.top;
    }

pub returns-clause-does : goal.returns-clause-does
returns-clause-does c =
    let rs = c.self.inside.votes.ballots.registrations in
    let seats = c.self.inside.seats.items in
    let b = c.args.branch in
    let rows = ap (λ (v : StateParts). length v.family.rows) c.self.view_is in
    let within : b < length seats = omega (arith, c.requires.there, rows, c.self.invariant.seats, c.self.inside.seats.ok.0) in
    ap (λ (x : Seat). record (shown c.self.inside).family { calls = all_seated rs (slice_set seats b x) }) c.set_deciding.ensures
    ∙ (call_decides (shown c.self.inside).family rs seats b c.index_mut.result.now refl within c.index_mut.ensures.value
    ∙ ap (λ (v : StateParts). deciding_in (call_at v.family b) b v.family) c.self.view_is)
