use Rattle.std.proofs.Common.{◌≡◌, ◌∙◌, refl, sym, ap, subst, ◌+◌, ◌<◌, max, Bool, if◌then◌else◌, is_some, List, length, slice_set, true, Some, arith, ℕ, Option}
use Rattle.resource_votes.specs.declared.registration.Registration.{Registration}
use Rattle.family_rules.specs.Calls.{AreTasks, all_seated, duties_in, plain_call}
use Rattle.family_rules.specs.Changes.{DraftParts}
use Rattle.coordinator.specs.Family.{with_call}
use Rattle.family_rules.specs.Room.{StateParts}
use Rattle.family_rules.specs.StateInside.{shown}
use Rattle.family_rules.specs.declared.call.Seat.{Seat}
use Rattle.family_rules.specs.Tallies.{IsTallied}
use Rattle.family_rules.specs.declared.call.Task.{Task}
use Rattle.family_rules.specs.declared.tally.Tally.{Tally}
use Rattle.family_rules.proofs.AtSeat.{put, put_there}
use Rattle.family_rules.proofs.Kept.{tasks_set}
use Rattle.family_rules.proofs.Tallied.{tallied_gathered}
use Rattle.family_rules.specs.Outs.{out_of, some_of}
use Rattle.family_rules.proofs.Waited.{outs_few, outs_set, outs_there}
use Rattle.family_rules.proofs.state.State.keep_gathered.Goals as goal

pub invariant_of-self : goal.invariant_of-self
invariant_of-self c =
    let rs = c.self.inside.votes.ballots.registrations in
    let seats = c.self.inside.seats.items in
    let kept : c.out.inside.tasks.items ≡ c.args.out.now.changes.tasks = ap (λ (d : DraftParts). d.changes.tasks) c.out.view_is in
    let same : c.swap.new.x.items ≡ c.args.out.now.changes.tasks = cc in
    let ours : rs ≡ c.args.self.now.family.ballots.registrations = ap (λ (v : StateParts). v.family.ballots.registrations) c.self.view_is in
    let all : AreTasks rs c.swap.new.x.items =
    subst (λ (xs : List Task). AreTasks rs xs) (sym same) (subst (λ (qs : List Registration). AreTasks qs c.args.out.now.changes.tasks) (sym ours) c.requires.tasks) in
    let b = c.args.branch in
    let rows = ap (λ (v : StateParts). length v.family.rows) c.self.view_is in
    let within : b < length seats = omega (arith, c.requires.there, rows, c.self.invariant.seats, c.self.inside.seats.ok.0) in
    let s = c.index_mut-seat.result.now in
    let t = c.self.inside.tally in
    let new : Seat = record { call = Some (record c.args.call { owes = true }); left = c.swap.new.x } in
    let moved : length c.swap.new.x.items ≡ length c.out.inside.tasks.items = ap (λ (xs : List Task). length xs) (same ∙ sym kept) in
    let many : length c.swap.new.x.items ≡ c.len-tasks.result = omega (arith, moved, c.len-tasks.ensures, c.out.inside.tasks.ok.0) in
    let called : c.with_call-called.result ≡ record t { calls = if is_some s.call then t.calls else t.calls + 1 } =
    c.with_call-called.ensures ∙ ap {B = Tally} (λ (had : Bool). record t { calls = if had then t.calls else t.calls + 1 }) c.is_some-had.ensures in
    let tallied : c.with_tasks-self-inside.result ≡ record t { most = max t.most c.len-tasks.result; calls = if is_some s.call then t.calls else t.calls + 1 } =
    c.with_tasks-self-inside.ensures ∙ ap {B = Tally} (λ (x : Tally). record x { most = max x.most c.len-tasks.result }) called in
    record {
      few = c.self.invariant.few;
      serial = c.self.invariant.serial;
      seats = c.self.invariant.seats;
      synchronizations = c.self.invariant.synchronizations;
      order = c.self.invariant.order;
      synchronization_order = c.self.invariant.synchronization_order;
      lists = c.self.invariant.lists;
      once = c.self.invariant.once;
      tasks = tasks_set rs seats c.args.branch _ c.self.invariant.tasks all;
      places = c.self.invariant.places;
      tally = subst (λ (x : Tally). IsTallied x (slice_set seats b new)) (sym tallied)
          (tallied_gathered t seats b s new c.len-tasks.result within c.index_mut-seat.ensures.value c.self.invariant.tally refl many);
      outs = outs_set c.self.inside.outs.words c.change.new.self.words seats b s new c.awaited.result (c.args.call.out) within c.index_mut-seat.ensures.value c.awaited.ensures (refl) c.self.invariant.outs
          c.change.ensures.times c.change.ensures.count;
      outs_room = omega (arith, c.self.invariant.outs_room, c.change.ensures.capacity);
      top = c.self.invariant.top;
    }

pub returns-clause-family : goal.returns-clause-family
returns-clause-family c =
    let rs = c.self.inside.votes.ballots.registrations in
    let seats = c.self.inside.seats.items in
    let b = c.args.branch in
    let kept : c.out.inside.tasks.items ≡ c.args.out.now.changes.tasks = ap (λ (d : DraftParts). d.changes.tasks) c.out.view_is in
    let same : c.swap.new.x.items ≡ c.args.out.now.changes.tasks = cc in
    put (shown c.self.inside).family rs seats b _ (Some (record (plain_call c.args.call) { left = duties_in rs c.swap.new.x.items })) refl refl
    ∙ (ap (λ (xs : List Task). with_call b (record (plain_call c.args.call) { left = duties_in rs xs }) (shown c.self.inside).family) same
    ∙ ap (λ (v : StateParts). with_call b (record (plain_call c.args.call) { left = duties_in v.family.ballots.registrations c.args.out.now.changes.tasks }) v.family) c.self.view_is)

pub returns-clause-call : goal.returns-clause-call
returns-clause-call c =
    let rs = c.self.inside.votes.ballots.registrations in
    let seats = c.self.inside.seats.items in
    let b = c.args.branch in
    let rows = ap (λ (v : StateParts). length v.family.rows) c.self.view_is in
    let within : b < length seats = omega (arith, c.requires.there, rows, c.self.invariant.seats, c.self.inside.seats.ok.0) in
    let kept : c.out.inside.tasks.items ≡ c.args.out.now.changes.tasks = ap (λ (d : DraftParts). d.changes.tasks) c.out.view_is in
    let same : c.swap.new.x.items ≡ c.args.out.now.changes.tasks = cc in
    let new : Seat = record { call = Some (record c.args.call { owes = true }); left = c.swap.new.x } in
    put_there (record (shown c.self.inside).family { calls = all_seated rs (slice_set seats b new) }) rs seats b new refl within
    ∙ (ap (λ (xs : List Task). Some (record (plain_call c.args.call) { left = duties_in rs xs })) same
    ∙ ap (λ (v : StateParts). Some (record (plain_call c.args.call) { left = duties_in v.family.ballots.registrations c.args.out.now.changes.tasks })) c.self.view_is)

pub change-requires : goal.change-requires
change-requires c =
    let words = c.self.inside.outs.words in
    let seats = c.self.inside.seats.items in
    let b = c.args.branch in
    let rows = ap (λ (v : StateParts). length v.family.rows) c.self.view_is in
    let within : b < length seats = omega (arith, c.requires.there, rows, c.self.invariant.seats, c.self.inside.seats.ok.0) in
    let s = c.index_mut-seat.result.now in
    let few = outs_few words seats b s within c.index_mut-seat.ensures.value c.self.invariant.outs in
    let had : some_of c.awaited.result ≡ some_of (out_of s.call) = ap (λ (o : Option ℕ). some_of o) c.awaited.ensures in
    record {
      there = λ n is. outs_there words seats b n s within c.index_mut-seat.ensures.value c.self.invariant.outs (sym c.awaited.ensures ∙ is);
      room = omega (arith, few, had, c.self.invariant.outs_room, c.self.inside.seats.ok.0);
    }
