use Rattle.std.proofs.Common.{◌∙◌, ℕ, List, sym, ap, subst, arith}
use Rattle.recovery_coord.specs.declared.held.Held.{Held}
use Rattle.recovery_coord.specs.Order.{IsAt, IsGap, RiseFrom}
use Rattle.recovery_coord.specs.Trees.{first_of}
use Rattle.recovery_coord.proofs.Ordered.{held_at, rise_inserted, taken_in}
use Rattle.recovery_coord.proofs.Treed.{first_insert}
use Rattle.recovery_coord.proofs.row.Row.take_in.Goals as goal

pub returns-in-Ok : goal.returns-in-Ok
returns-in-Ok c =
    let at = subst (λ (p : ℕ). IsAt p c.in-Ok.field-0 c.as_slice.result.now) c.from.ensures c.in-Ok.ensures.found in
    let there = subst (λ (xs : List Held). IsAt c.args.held.place c.in-Ok.field-0 xs) c.as_slice.ensures at in
    let held = held_at c.args.held.place c.in-Ok.field-0 c.args.self.now there in
    let free = c.requires.free in
    absurd (cc (held, free))

pub returns-in_ok-insert-in-Err-clause-ok : goal.returns-in_ok-insert-in-Err-clause-ok
returns-in_ok-insert-in-Err-clause-ok c =
    let none = subst (λ (p : ℕ). IsGap p c.in-Err.index c.as_slice.result.now) c.from.ensures c.in-Err.ensures.none in
    let gap = subst (λ (xs : List Held). IsGap c.args.held.place c.in-Err.index xs) c.as_slice.ensures none in
    c.in_ok-insert-in-Err.ensures.ok ∙ sym (taken_in c.args.held c.args.self.now c.requires.order c.in-Err.index gap)

pub returns-in_ok-insert-in-Err-clause-order : goal.returns-in_ok-insert-in-Err-clause-order
returns-in_ok-insert-in-Err-clause-order c =
    let none = subst (λ (p : ℕ). IsGap p c.in-Err.index c.as_slice.result.now) c.from.ensures c.in-Err.ensures.none in
    let gap = subst (λ (xs : List Held). IsGap c.args.held.place c.in-Err.index xs) c.as_slice.ensures none in
    subst (λ (xs : List Held). RiseFrom 0 xs) (sym c.in_ok-insert-in-Err.ensures.ok)
    (rise_inserted c.args.held 0 c.args.self.now c.requires.order (omega arith) c.in-Err.index gap)

pub returns-in_ok-insert-in-Err-clause-joined : goal.returns-in_ok-insert-in-Err-clause-joined
returns-in_ok-insert-in-Err-clause-joined c =
    let none = subst (λ (p : ℕ). IsGap p c.in-Err.index c.as_slice.result.now) c.from.ensures c.in-Err.ensures.none in
    let gap = subst (λ (xs : List Held). IsGap c.args.held.place c.in-Err.index xs) c.as_slice.ensures none in
    λ t. ap (first_of t) c.in_ok-insert-in-Err.ensures.ok ∙ first_insert t c.args.held c.args.self.now c.in-Err.index gap
