use Rattle.std.proofs.Common.{◌≡◌, ◌∙◌, refl, sym, ap, subst, ◌-◌, ◌<◌, Bool, if◌then◌else◌, is_some, List, [], ◌++◌, length, slice_set, arith, ℕ, Option, None}
use Rattle.family_rules.specs.Calls.{AreTasks, duties_in, owed_below}
use Rattle.family_rules.specs.Changes.{DraftParts}
use Rattle.coordinator.specs.Family.{Duty, call_at, without_call}
use Rattle.family_rules.specs.Room.{StateParts}
use Rattle.coordinator.specs.Running.{left_by, overtaken_caller}
use Rattle.family_rules.specs.StateInside.{shown}
use Rattle.family_rules.specs.Tallies.{IsTallied}
use Rattle.family_rules.specs.declared.call.Task.{Task}
use Rattle.family_rules.specs.declared.tally.Tally.{Tally}
use Rattle.family_rules.proofs.AtSeat.{caller_is, owed_below_is, puts_none, tasks_below, tasks_left_below}
use Rattle.family_rules.proofs.Duties.{as_many}
use Rattle.family_rules.proofs.Kept.{tasks_at, tasks_set}
use Rattle.family_rules.proofs.Tallied.{some_open, tallied_vacated}
use Rattle.family_rules.specs.Outs.{out_of, some_of}
use Rattle.family_rules.proofs.Waited.{outs_few, outs_set, outs_there}
use Rattle.family_rules.specs.declared.call.Call.{Call as KeptCall}
use Rattle.family_rules.proofs.state.State.vacate.Goals as goal

pub vacate-caller-requires : goal.vacate-caller-requires
vacate-caller-requires c =
    let rs = c.self.inside.votes.ballots.registrations in
    let seats = c.self.inside.seats.items in
    let b = c.args.branch in
    let rows = ap (λ (v : StateParts). length v.family.rows) c.self.view_is in
    let within : b < length seats = omega (arith, c.requires.there, rows, c.self.invariant.seats, c.self.inside.seats.ok.0) in
    let s = c.index_mut-seat.result.now in
    let all : AreTasks rs s.left.items = tasks_at rs seats b s within c.self.invariant.tasks c.index_mut-seat.ensures.value in
    let many : length (duties_in rs (owed_below s)) ≡ length (owed_below s) = as_many rs (owed_below s) (tasks_below rs s all) in
    let is : duties_in rs (owed_below s) ≡ left_by (call_at c.args.self.now.family b) =
    owed_below_is (shown c.self.inside).family rs seats b s refl within c.index_mut-seat.ensures.value
    ∙ ap (λ (v : StateParts). left_by (call_at v.family b)) c.self.view_is in
    let few = ap (λ (ds : List Duty). length ds) is in
    let none = ap (λ (d : DraftParts). length d.changes.tasks) c.out.view_is in
    let empty = ap (λ (xs : List Task). length xs) c.requires.empty in
    let fits = ap (λ (d : DraftParts). d.tasks_room) c.out.view_is in
    record { room = omega (arith, many, few, none, empty, fits, c.requires.room, c.out.inside.tasks.ok.0) }

pub invariant_of-self : goal.invariant_of-self
invariant_of-self c =
    let rs = c.self.inside.votes.ballots.registrations in
    let seats = c.self.inside.seats.items in
    let b = c.args.branch in
    let rows = ap (λ (v : StateParts). length v.family.rows) c.self.view_is in
    let within : b < length seats = omega (arith, c.requires.there, rows, c.self.invariant.seats, c.self.inside.seats.ok.0) in
    let s = c.index_mut-seat.result.now in
    let all : AreTasks rs s.left.items = tasks_at rs seats b s within c.self.invariant.tasks c.index_mut-seat.ensures.value in
    let t = c.self.inside.tally in
    let tallied : c.without_call-self-inside.result ≡ record t { calls = if is_some s.call then t.calls - 1 else t.calls } =
    c.without_call-self-inside.ensures ∙ ap {B = Tally} (λ (had : Bool). record t { calls = if had then t.calls - 1 else t.calls }) c.is_some-had.ensures in
    record {
      few = c.self.invariant.few;
      serial = c.self.invariant.serial;
      seats = c.self.invariant.seats;
      synchronizations = c.self.invariant.synchronizations;
      order = c.self.invariant.order;
      synchronization_order = c.self.invariant.synchronization_order;
      lists = c.self.invariant.lists;
      once = c.self.invariant.once;
      tasks = tasks_set rs seats b c.vacate-caller.new.seat c.self.invariant.tasks (tasks_left_below rs s c.vacate-caller.new.seat.left.items c.vacate-caller.ensures.left all);
      places = c.self.invariant.places;
      tally = subst (λ (x : Tally). IsTallied x (slice_set seats b c.vacate-caller.new.seat)) (sym tallied)
          (tallied_vacated t seats b s c.vacate-caller.new.seat within c.index_mut-seat.ensures.value c.self.invariant.tally c.vacate-caller.ensures.vacant c.vacate-caller.ensures.left);
      outs = outs_set c.self.inside.outs.words c.change.new.self.words seats b s c.vacate-caller.new.seat c.awaited.result (None) within c.index_mut-seat.ensures.value c.awaited.ensures (sym (ap (λ (o : Option KeptCall). out_of o) c.vacate-caller.ensures.vacant)) c.self.invariant.outs
          c.change.ensures.times c.change.ensures.count;
      outs_room = omega (arith, c.self.invariant.outs_room, c.change.ensures.capacity);
      top = c.self.invariant.top;
    }

pub without_call-self-inside-requires : goal.without_call-self-inside-requires
without_call-self-inside-requires c =
    let seats = c.self.inside.seats.items in
    let rows = ap (λ (v : StateParts). length v.family.rows) c.self.view_is in
    let within : c.args.branch < length seats = omega (arith, c.requires.there, rows, c.self.invariant.seats, c.self.inside.seats.ok.0) in
    record {
      some = λ had. some_open c.self.inside.tally seats c.args.branch c.index_mut-seat.result.now within c.index_mut-seat.ensures.value c.self.invariant.tally
          (sym c.is_some-had.ensures ∙ had);
    }

pub returns-clause-family : goal.returns-clause-family
returns-clause-family c =
    let rs = c.self.inside.votes.ballots.registrations in
    let seats = c.self.inside.seats.items in
    let b = c.args.branch in
    puts_none (shown c.self.inside).family rs seats b c.vacate-caller.new.seat refl c.vacate-caller.ensures.vacant
    ∙ ap (λ (v : StateParts). without_call b v.family) c.self.view_is

pub returns-clause-caller : goal.returns-clause-caller
returns-clause-caller c =
    let rs = c.self.inside.votes.ballots.registrations in
    let seats = c.self.inside.seats.items in
    let b = c.args.branch in
    let rows = ap (λ (v : StateParts). length v.family.rows) c.self.view_is in
    let within : b < length seats = omega (arith, c.requires.there, rows, c.self.invariant.seats, c.self.inside.seats.ok.0) in
    c.vacate-caller.ensures.caller
    ∙ (caller_is (shown c.self.inside).family rs seats b c.index_mut-seat.result.now refl within c.index_mut-seat.ensures.value
    ∙ ap (λ (v : StateParts). overtaken_caller (call_at v.family b)) c.self.view_is)

pub returns-clause-gathered : goal.returns-clause-gathered
returns-clause-gathered c =
    let rs = c.self.inside.votes.ballots.registrations in
    let seats = c.self.inside.seats.items in
    let b = c.args.branch in
    let rows = ap (λ (v : StateParts). length v.family.rows) c.self.view_is in
    let within : b < length seats = omega (arith, c.requires.there, rows, c.self.invariant.seats, c.self.inside.seats.ok.0) in
    let s = c.index_mut-seat.result.now in
    let none : c.out.inside.tasks.items ≡ [] = ap (λ (d : DraftParts). d.changes.tasks) c.out.view_is ∙ c.requires.empty in
    let now : c.vacate-caller.new.tasks.items ≡ owed_below s = c.vacate-caller.ensures.tasks ∙ ap (λ (xs : List Task). xs ++ owed_below s) none in
    ap (λ (xs : List Task). duties_in rs xs) now
    ∙ (owed_below_is (shown c.self.inside).family rs seats b s refl within c.index_mut-seat.ensures.value
    ∙ ap (λ (v : StateParts). left_by (call_at v.family b)) c.self.view_is)

pub returns-clause-tasks : goal.returns-clause-tasks
returns-clause-tasks c =
    let rs = c.self.inside.votes.ballots.registrations in
    let seats = c.self.inside.seats.items in
    let b = c.args.branch in
    let rows = ap (λ (v : StateParts). length v.family.rows) c.self.view_is in
    let within : b < length seats = omega (arith, c.requires.there, rows, c.self.invariant.seats, c.self.inside.seats.ok.0) in
    let s = c.index_mut-seat.result.now in
    let all : AreTasks rs s.left.items = tasks_at rs seats b s within c.self.invariant.tasks c.index_mut-seat.ensures.value in
    let none : c.out.inside.tasks.items ≡ [] = ap (λ (d : DraftParts). d.changes.tasks) c.out.view_is ∙ c.requires.empty in
    let now : c.vacate-caller.new.tasks.items ≡ owed_below s = c.vacate-caller.ensures.tasks ∙ ap (λ (xs : List Task). xs ++ owed_below s) none in
    subst (λ (xs : List Task). AreTasks rs xs) (sym now) (tasks_below rs s all)

pub change-requires : goal.change-requires
change-requires c =
    let words = c.self.inside.outs.words in
    let seats = c.self.inside.seats.items in
    let b = c.args.branch in
    let rows = ap (λ (v : StateParts). length v.family.rows) c.self.view_is in
    let within : b < length seats = omega (arith, c.requires.there, rows, c.self.invariant.seats, c.self.inside.seats.ok.0) in
    let s = c.index_mut-seat.result.now in
    let few = outs_few words seats b s within c.index_mut-seat.ensures.value c.self.invariant.outs in
    let had : some_of c.awaited.result ≡ some_of (out_of s.call) = ap (λ (o : Option ℕ). some_of o) c.awaited.ensures in
    record {
      there = λ n is. outs_there words seats b n s within c.index_mut-seat.ensures.value c.self.invariant.outs (sym c.awaited.ensures ∙ is);
      room = omega (arith, few, had, c.self.invariant.outs_room, c.self.inside.seats.ok.0);
    }
