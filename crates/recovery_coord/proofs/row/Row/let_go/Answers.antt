use Rattle.std.proofs.Common.{◌∙◌, ℕ, List, sym, subst}
use Rattle.recovery_coord.specs.declared.held.Held.{Held}
use Rattle.recovery_coord.specs.Order.{IsAt, IsGap, RiseFrom}
use Rattle.recovery_coord.specs.declared.trees.Tree.{Tree}
use Rattle.recovery_coord.specs.Trees.{IsParted, tree_of}
use Rattle.recovery_coord.proofs.Ordered.{none_at, rise_without, without_at, without_none}
use Rattle.recovery_coord.proofs.Treed.{removed}
use Rattle.recovery_coord.proofs.row.Row.let_go.Goals as goal

pub returns-in-Ok-clause-without : goal.returns-in-Ok-clause-without
returns-in-Ok-clause-without c =
    let at = subst (λ (p : ℕ). IsAt p c.in-Ok.index c.as_slice.result.now) c.from.ensures c.in-Ok.ensures.found in
    let there = subst (λ (xs : List Held). IsAt c.args.place c.in-Ok.index xs) c.as_slice.ensures at in
    c.remove.ensures ∙ sym (without_at c.args.place 0 c.args.self.now c.requires.order c.in-Ok.index c.index-as_slice-index.result there.within (there.same c.index-as_slice-index.result))

pub returns-in-Ok-clause-order : goal.returns-in-Ok-clause-order
returns-in-Ok-clause-order c =
    let at = subst (λ (p : ℕ). IsAt p c.in-Ok.index c.as_slice.result.now) c.from.ensures c.in-Ok.ensures.found in
    let there = subst (λ (xs : List Held). IsAt c.args.place c.in-Ok.index xs) c.as_slice.ensures at in
    subst (λ (xs : List Held). RiseFrom 0 xs)
    (without_at c.args.place 0 c.args.self.now c.requires.order c.in-Ok.index c.index-as_slice-index.result there.within (there.same c.index-as_slice-index.result) ∙ sym c.remove.ensures)
    (rise_without c.args.place 0 c.args.self.now c.requires.order)

pub returns-in-Err-clause-without : goal.returns-in-Err-clause-without
returns-in-Err-clause-without c =
    let none = subst (λ (p : ℕ). IsGap p c.in-Err.field-0 c.as_slice.result.now) c.from.ensures c.in-Err.ensures.none in
    let gap = subst (λ (xs : List Held). IsGap c.args.place c.in-Err.field-0 xs) c.as_slice.ensures none in
    sym (without_none c.args.place c.args.self.now (none_at c.args.place c.in-Err.field-0 c.args.self.now gap))

pub returns-in-Ok-clause-parted : goal.returns-in-Ok-clause-parted
returns-in-Ok-clause-parted c =
    let at = subst (λ (p : ℕ). IsAt p c.in-Ok.index c.as_slice.result.now) c.from.ensures c.in-Ok.ensures.found in
    let there = subst (λ (xs : List Held). IsAt c.args.place c.in-Ok.index xs) c.as_slice.ensures at in
    let is = removed c.args.self.now c.in-Ok.index c.index-as_slice-index.result c.index-as_slice-index.result there.within cc in
    subst (λ (t : Tree). IsParted t c.args.self.now c.remove.new.self) (sym c.tree_of-tree.ensures)
    (subst (λ (xs : List Held). IsParted (tree_of c.index-as_slice-index.result) c.args.self.now xs) (sym c.remove.ensures) is)
