use Rattle.std.proofs.Common.{◌≡◌, ◌∙◌, sym, ap, subst, ℕ, suc, ◌+◌, ◌-◌, ◌++◌, List, [], length, Some, arith}
use Rattle.ots_model.specs.declared.tree.Outward.{Outward}
use Rattle.txn_tree.specs.Calls.{live_under}
use Rattle.family_rules.specs.Calls.{duties_in, plain_call}
use Rattle.coordinator.specs.Family.{Call}
use Rattle.family_rules.specs.Going.{CanGo}
use Rattle.family_rules.specs.Room.{StateParts}
use Rattle.coordinator.specs.Running.{duties_below}
use Rattle.family_rules.specs.declared.call.Task.{Task}
use Rattle.family_rules.proofs.Duties.{nothing_there, something_there}
use Rattle.family_rules.proofs.RunsOn.{EndsBelow, ends, sweeps_on, sweeps_out, sweeps_past, sweeps_tells}
use Rattle.family_rules.proofs.state.State.sweep.Goals as goal

pub returns-in-None-clause-does : goal.returns-in-None-clause-does
returns-in-None-clause-does c =
    let f = c.args.self.now.family in
    let b = c.args.branch in
    let g = c.loop-so_many.self.family in
    let d = c.loop-so_many.out in
    let call : Call = plain_call c.args.call in
    let left : ℕ = length f.rows - c.loop-so_many._so_many in
    sweeps_past g c.pass.new.self.family d c.pass.new.out left b call (sym c.live_under.ensures.next ∙ c.in-None.is) c.pass.ensures.does
    ∙ c.loop-so_many.invariant.same

pub tell_gathered-requires-clause-there : goal.tell_gathered-requires-clause-there
tell_gathered-requires-clause-there c =
    let f = c.args.self.now.family in
    let b = c.args.branch in
    let g = c.loop-so_many.self.family in
    let d = c.loop-so_many.out in
    let call : Call = plain_call c.args.call in
    let left : ℕ = length f.rows - c.loop-so_many._so_many in
    let e = c.end_below.new.out in
    let h = c.end_below.new.self.family in
    let so : EndsBelow g h d e = ends g h d e c.in-Some.below c.end_below.ensures.moved in
    omega (arith, so.rows, c.loop-so_many.invariant.rows, c.requires.there)

pub tell_gathered-requires-clause-serial : goal.tell_gathered-requires-clause-serial
tell_gathered-requires-clause-serial c =
    let f = c.args.self.now.family in
    let b = c.args.branch in
    let g = c.loop-so_many.self.family in
    let d = c.loop-so_many.out in
    let call : Call = plain_call c.args.call in
    let left : ℕ = length f.rows - c.loop-so_many._so_many in
    let e = c.end_below.new.out in
    let h = c.end_below.new.self.family in
    let so : EndsBelow g h d e = ends g h d e c.in-Some.below c.end_below.ensures.moved in
    let entries = ap (λ (xs : List _). length xs) so.entries in
    omega (arith, so.serial, entries, c.loop-so_many.invariant.can.serial)

pub tell_gathered-requires-clause-quiet : goal.tell_gathered-requires-clause-quiet
tell_gathered-requires-clause-quiet c =
    let f = c.args.self.now.family in
    let b = c.args.branch in
    let g = c.loop-so_many.self.family in
    let d = c.loop-so_many.out in
    let call : Call = plain_call c.args.call in
    let left : ℕ = length f.rows - c.loop-so_many._so_many in
    let e = c.end_below.new.out in
    let h = c.end_below.new.self.family in
    let so : EndsBelow g h d e = ends g h d e c.in-Some.below c.end_below.ensures.moved in
    so.words ∙ ap (λ (ws : List Outward). ws ++ []) c.loop-so_many.invariant.can.quiet

pub returns-then-has_tasks-clause-does : goal.returns-then-has_tasks-clause-does
returns-then-has_tasks-clause-does c =
    let f = c.args.self.now.family in
    let b = c.args.branch in
    let g = c.loop-so_many.self.family in
    let d = c.loop-so_many.out in
    let call : Call = plain_call c.args.call in
    let left : ℕ = length f.rows - c.loop-so_many._so_many in
    let e = c.end_below.new.out in
    let h = c.end_below.new.self.family in
    let so : EndsBelow g h d e = ends g h d e c.in-Some.below c.end_below.ensures.moved in
    let live : live_under g.rows b ≡ Some c.in-Some.below = sym c.live_under.ensures.next ∙ c.in-Some.is in
    let many : length c.self.inside.tree.rows ≡ length f.rows = ap (λ (v : StateParts). length v.family.rows) c.self.view_is in
    let one_less : left ≡ suc (length f.rows - (c.loop-so_many._so_many + 1)) = omega (arith, many, c.loop-so_many-test.true, c.count-so_many-end.ensures.count) in
    let some = something_there h.ballots.registrations e.changes.tasks c.end_below.ensures.tasks (sym c.has_tasks.ensures ∙ c.if-has_tasks.true) in
    sweeps_tells g h c.tell_gathered.new.self.family d e c.tell_gathered.new.out left (length f.rows - (c.loop-so_many._so_many + 1)) b c.in-Some.below call
    some.duty some.others live one_less c.end_below.ensures.moved (sym c.end_below.ensures.gathered ∙ some.is)
    (c.tell_gathered.ensures.does some.duty some.others some.is)
    ∙ c.loop-so_many.invariant.same

pub loop-so_many-preserved : goal.loop-so_many-preserved
loop-so_many-preserved c =
    let f = c.args.self.now.family in
    let b = c.args.branch in
    let g = c.loop-so_many.self.family in
    let d = c.loop-so_many.out in
    let call : Call = plain_call c.args.call in
    let left : ℕ = length f.rows - c.loop-so_many._so_many in
    let e = c.end_below.new.out in
    let h = c.end_below.new.self.family in
    let so : EndsBelow g h d e = ends g h d e c.in-Some.below c.end_below.ensures.moved in
    let live : live_under g.rows b ≡ Some c.in-Some.below = sym c.live_under.ensures.next ∙ c.in-Some.is in
    let many : length c.self.inside.tree.rows ≡ length f.rows = ap (λ (v : StateParts). length v.family.rows) c.self.view_is in
    let one_less : left ≡ suc (length f.rows - (c.loop-so_many._so_many + 1)) = omega (arith, many, c.loop-so_many-test.true, c.count-so_many-end.ensures.count) in
    let none : e.changes.tasks ≡ [] = nothing_there e.changes.tasks (sym c.has_tasks.ensures ∙ c.if-has_tasks.false) in
    let quiet : duties_below c.in-Some.below g ≡ [] =
    sym c.end_below.ensures.gathered ∙ ap (λ (ts : List Task). duties_in h.ballots.registrations ts) none in
    record {
      same = sweeps_on g h d e left (length f.rows - (c.loop-so_many._so_many + 1)) b c.in-Some.below call live one_less c.end_below.ensures.moved quiet
          ∙ c.loop-so_many.invariant.same;
      rows = so.rows ∙ c.loop-so_many.invariant.rows;
      kept = omega (arith, c.loop-so_many.invariant.kept, c.end_below.ensures.kept);
      can = c.end_below.ensures.can (length f.rows - (c.loop-so_many._so_many + 1) + 3)
          (subst (λ (n : ℕ). CanGo n g d) (omega (arith, one_less)) c.loop-so_many.invariant.can) none;
    }

pub returns-clause-does : goal.returns-clause-does
returns-clause-does c =
    let f = c.args.self.now.family in
    let b = c.args.branch in
    let g = c.loop-so_many.self.family in
    let d = c.loop-so_many.out in
    let call : Call = plain_call c.args.call in
    let left : ℕ = length f.rows - c.loop-so_many._so_many in
    let many : length c.self.inside.tree.rows ≡ length f.rows = ap (λ (v : StateParts). length v.family.rows) c.self.view_is in
    sweeps_out g c.pass-2.new.self.family d c.pass-2.new.out left b call
    (omega (arith, many, c.loop-so_many-test.false, c.count-so_many-end.ensures.count)) c.pass-2.ensures.does
    ∙ c.loop-so_many.invariant.same
