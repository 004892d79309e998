use Rattle.std.proofs.Common.{◌≡◌, ◌+◌, ◌∙◌, List, ap, refl, subst, sym, length, arith, length-append, ◌<◌}
use Rattle.std.specs.Prelude.{vec_len, IsTrue}
use Rattle.std.specs.Result.{IsOk}
use Rattle.txn_tree.specs.Calls.{created, creating}
use Rattle.txn_tree.specs.Rows.{is_live_branch}
use Rattle.txn_tree.specs.declared.row.Row.{Row}
use Rattle.family_rules.specs.Asking.{Creates}
use Rattle.family_rules.specs.Calls.{AllTasks, all_seated}
use Rattle.family_rules.specs.Room.{StateParts}
use Rattle.family_rules.specs.StateInside.{shown}
use Rattle.family_rules.specs.declared.call.Seat.{Seat}
use Rattle.family_rules.proofs.Added.{seats_more, tasks_more}
use Rattle.family_rules.proofs.Made.{at_ok, creates_one}
use Rattle.family_rules.specs.Tallies.{IsTallied}
use Rattle.family_rules.proofs.Tallied.{tallied_more}
use Rattle.family_rules.specs.Outs.{AreOut}
use Rattle.family_rules.proofs.Asked.{seat_there}
use Rattle.family_rules.proofs.Lives.{created_top}
use Rattle.family_rules.proofs.Waited.{outs_more}
use Rattle.family_rules.proofs.state.State.create_sub.Goals as goal

pub invariant_of-self : goal.invariant_of-self
invariant_of-self c =
    let s = c.self.inside in
    let is : IsOk c.create_sub-made.result = sym c.is_ok.ensures.value ∙ c.if-is_ok.true in
    let rows : c.create_sub-made.new.self.rows ≡ created s.tree.rows c.args.branch = at_ok c.create_sub-made.result is c.create_sub-made.ensures.ok in
    let count : length c.create_sub-made.new.self.rows ≡ length s.tree.rows + 1 = ap (λ (xs : List Row). length xs) rows ∙ length-append s.tree.rows _ in
    let seats = c.self.invariant.seats in
    let len = c.push_reserved.ensures.len in
    let some : vec_len s.seats < s.outs.capacity = seat_there s (subst (λ (p : StateParts). 0 < p.room) (sym c.self.view_is) c.requires.room) in
    record {
      few = c.self.invariant.few;
      serial = c.self.invariant.serial;
      seats = omega (arith, seats, len, count);
      synchronizations = c.self.invariant.synchronizations;
      order = c.self.invariant.order;
      synchronization_order = c.self.invariant.synchronization_order;
      lists = c.self.invariant.lists;
      once = c.self.invariant.once;
      tasks = subst (λ (xs : List Seat). AllTasks s.votes.ballots.registrations xs) (sym c.push_reserved.ensures.items)
          (tasks_more s.votes.ballots.registrations s.seats.items _ c.new.ensures.items c.self.invariant.tasks);
      places = c.self.invariant.places;
      tally = subst (λ (xs : List Seat). IsTallied s.tally xs) (sym c.push_reserved.ensures.items)
          (tallied_more s.tally s.seats.items _ c.new.ensures.items refl c.self.invariant.tally);
      outs = subst (λ (xs : List Seat). AreOut s.outs.words xs) (sym c.push_reserved.ensures.items)
          (outs_more s.outs.words s.seats.items _ refl c.self.invariant.outs);
      outs_room = omega (arith, len, some);
      top = subst (λ (xs : List Row). IsTrue (is_live_branch xs 0)) (sym rows) (created_top s.tree.rows c.args.branch c.self.invariant.top);
    }

pub returns-then-is_ok-clause-made : goal.returns-then-is_ok-clause-made
returns-then-is_ok-clause-made c =
    let s = c.self.inside in
    let made = c.create_sub-made in
    let is : IsOk made.result = sym c.is_ok.ensures.value ∙ c.if-is_ok.true in
    let rs = s.votes.ballots.registrations in
    subst (λ (p : StateParts). Creates (creating p.family.rows c.args.branch) c.args.branch p.family
    (record (shown s).family { rows = made.new.self.rows; calls = all_seated rs c.push_reserved.new.self.items }) made.result) c.self.view_is
    (creates_one (creating s.tree.rows c.args.branch) c.args.branch (shown s).family made.new.self.rows (all_seated rs c.push_reserved.new.self.items) made.result
    is made.ensures.refused made.ensures.ok made.ensures.branch
    (ap (λ (xs : List Seat). all_seated rs xs) c.push_reserved.ensures.items ∙ seats_more rs s.seats.items _ refl))
