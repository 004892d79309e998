use Rattle.std.proofs.Common.{◌∙◌, refl, sym, ap, subst, ◌<◌, length, slice_set, arith, ℕ, Option, ◌≡◌}
use Rattle.family_rules.specs.Calls.{AreTasks, all_seated, changed_in}
use Rattle.coordinator.specs.Family.{call_at}
use Rattle.family_rules.specs.Room.{StateParts}
use Rattle.family_rules.specs.StateInside.{shown}
use Rattle.family_rules.specs.declared.call.Seat.{Seat}
use Rattle.family_rules.proofs.AtSeat.{call_changes}
use Rattle.family_rules.proofs.Kept.{tasks_at, tasks_set}
use Rattle.family_rules.proofs.Tallied.{tallied_changed}
use Rattle.family_rules.specs.Outs.{out_of, some_of}
use Rattle.family_rules.proofs.Waited.{outs_few, outs_set, outs_there}
use Rattle.family_rules.proofs.state.State.change_call.Goals as goal

pub invariant_of-self : goal.invariant_of-self
invariant_of-self c =
    let rs = c.self.inside.votes.ballots.registrations in
    let seats = c.self.inside.seats.items in
    let b = c.args.branch in
    let rows = ap (λ (v : StateParts). length v.family.rows) c.self.view_is in
    let within : b < length seats = omega (arith, c.requires.there, rows, c.self.invariant.seats, c.self.inside.seats.ok.0) in
    let all : AreTasks rs c.index_mut-seat.result.now.left.items = tasks_at rs seats b c.index_mut-seat.result.now within c.self.invariant.tasks c.index_mut-seat.ensures.value in
    record {
      few = c.self.invariant.few;
      serial = c.self.invariant.serial;
      seats = c.self.invariant.seats;
      synchronizations = c.self.invariant.synchronizations;
      order = c.self.invariant.order;
      synchronization_order = c.self.invariant.synchronization_order;
      lists = c.self.invariant.lists;
      once = c.self.invariant.once;
      tasks = tasks_set rs seats b c.set_out.new.seat c.self.invariant.tasks (subst (λ (x : Seat). AreTasks rs x.left.items) (sym c.set_out.ensures) all);
      places = c.self.invariant.places;
      tally = tallied_changed c.self.inside.tally seats b c.index_mut-seat.result.now c.set_out.new.seat c.args.caller c.args.out within c.index_mut-seat.ensures.value c.self.invariant.tally c.set_out.ensures;
      outs = outs_set c.self.inside.outs.words c.change.new.self.words seats b c.index_mut-seat.result.now c.set_out.new.seat c.awaited-before.result (c.awaited.result) within c.index_mut-seat.ensures.value c.awaited-before.ensures (c.awaited.ensures) c.self.invariant.outs
          c.change.ensures.times c.change.ensures.count;
      outs_room = omega (arith, c.self.invariant.outs_room, c.change.ensures.capacity);
      top = c.self.invariant.top;
    }

pub returns-clause-does : goal.returns-clause-does
returns-clause-does c =
    let rs = c.self.inside.votes.ballots.registrations in
    let seats = c.self.inside.seats.items in
    let b = c.args.branch in
    let rows = ap (λ (v : StateParts). length v.family.rows) c.self.view_is in
    let within : b < length seats = omega (arith, c.requires.there, rows, c.self.invariant.seats, c.self.inside.seats.ok.0) in
    ap (λ (x : Seat). record (shown c.self.inside).family { calls = all_seated rs (slice_set seats b x) }) c.set_out.ensures
    ∙ (call_changes (shown c.self.inside).family rs seats b c.index_mut-seat.result.now c.args.caller c.args.out refl within c.index_mut-seat.ensures.value
    ∙ ap (λ (v : StateParts). changed_in (call_at v.family b) b c.args.caller c.args.out v.family) c.self.view_is)

pub change-requires : goal.change-requires
change-requires c =
    let words = c.self.inside.outs.words in
    let seats = c.self.inside.seats.items in
    let b = c.args.branch in
    let rows = ap (λ (v : StateParts). length v.family.rows) c.self.view_is in
    let within : b < length seats = omega (arith, c.requires.there, rows, c.self.invariant.seats, c.self.inside.seats.ok.0) in
    let s = c.index_mut-seat.result.now in
    let few = outs_few words seats b s within c.index_mut-seat.ensures.value c.self.invariant.outs in
    let had : some_of c.awaited-before.result ≡ some_of (out_of s.call) = ap (λ (o : Option ℕ). some_of o) c.awaited-before.ensures in
    record {
      there = λ n is. outs_there words seats b n s within c.index_mut-seat.ensures.value c.self.invariant.outs (sym c.awaited-before.ensures ∙ is);
      room = omega (arith, few, had, c.self.invariant.outs_room, c.self.inside.seats.ok.0);
    }
