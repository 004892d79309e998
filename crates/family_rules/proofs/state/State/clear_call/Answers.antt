use Rattle.std.proofs.Common.{◌≡◌, ◌∙◌, refl, sym, ap, subst, ◌-◌, ◌<◌, Bool, if◌then◌else◌, is_some, length, slice_set, None, arith, ℕ, Option}
use Rattle.family_rules.specs.Room.{StateParts}
use Rattle.family_rules.specs.Tallies.{IsTallied}
use Rattle.family_rules.specs.declared.call.Seat.{Seat}
use Rattle.family_rules.specs.declared.tally.Tally.{Tally}
use Rattle.family_rules.proofs.Kept.{tasks_at, tasks_set}
use Rattle.family_rules.proofs.Tallied.{tallied_cleared}
use Rattle.family_rules.specs.Outs.{out_of, some_of}
use Rattle.family_rules.proofs.Waited.{outs_few, outs_set, outs_there}
use Rattle.family_rules.proofs.state.State.clear_call.Goals as goal

pub invariant_of-self : goal.invariant_of-self
invariant_of-self c =
    let rs = c.self.inside.votes.ballots.registrations in
    let seats = c.self.inside.seats.items in
    let b = c.args.branch in
    let rows = ap (λ (v : StateParts). length v.family.rows) c.self.view_is in
    let within : b < length seats = omega (arith, c.requires.there, rows, c.self.invariant.seats, c.self.inside.seats.ok.0) in
    let s = c.index_mut-seat.result.now in
    let t = c.self.inside.tally in
    let new : Seat = record { call = None; left = s.left } in
    let tallied : c.without_call-self-inside.result ≡ record t { calls = if is_some s.call then t.calls - 1 else t.calls } =
    c.without_call-self-inside.ensures ∙ ap {B = Tally} (λ (had : Bool). record t { calls = if had then t.calls - 1 else t.calls }) c.is_some-had.ensures in
    record {
      few = c.self.invariant.few;
      serial = c.self.invariant.serial;
      seats = c.self.invariant.seats;
      synchronizations = c.self.invariant.synchronizations;
      order = c.self.invariant.order;
      synchronization_order = c.self.invariant.synchronization_order;
      lists = c.self.invariant.lists;
      once = c.self.invariant.once;
      tasks = tasks_set rs seats b new c.self.invariant.tasks (tasks_at rs seats b s within c.self.invariant.tasks c.index_mut-seat.ensures.value);
      places = c.self.invariant.places;
      tally = subst (λ (x : Tally). IsTallied x (slice_set seats b new)) (sym tallied)
          (tallied_cleared t seats b s new within c.index_mut-seat.ensures.value c.self.invariant.tally (omega arith) refl);
      outs = outs_set c.self.inside.outs.words c.change.new.self.words seats b s new c.awaited.result (None) within c.index_mut-seat.ensures.value c.awaited.ensures (refl) c.self.invariant.outs
          c.change.ensures.times c.change.ensures.count;
      outs_room = omega (arith, c.self.invariant.outs_room, c.change.ensures.capacity);
      top = c.self.invariant.top;
    }

pub change-requires : goal.change-requires
change-requires c =
    let words = c.self.inside.outs.words in
    let seats = c.self.inside.seats.items in
    let b = c.args.branch in
    let rows = ap (λ (v : StateParts). length v.family.rows) c.self.view_is in
    let within : b < length seats = omega (arith, c.requires.there, rows, c.self.invariant.seats, c.self.inside.seats.ok.0) in
    let s = c.index_mut-seat.result.now in
    let few = outs_few words seats b s within c.index_mut-seat.ensures.value c.self.invariant.outs in
    let had : some_of c.awaited.result ≡ some_of (out_of s.call) = ap (λ (o : Option ℕ). some_of o) c.awaited.ensures in
    record {
      there = λ n is. outs_there words seats b n s within c.index_mut-seat.ensures.value c.self.invariant.outs (sym c.awaited.ensures ∙ is);
      room = omega (arith, few, had, c.self.invariant.outs_room, c.self.inside.seats.ok.0);
    }
