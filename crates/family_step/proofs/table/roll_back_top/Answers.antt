use Rattle.std.proofs.Common.{◌≡◌, ◌∙◌, ◌+◌, ℕ, ap, sym, subst, length, false, arith}
use Rattle.coordinator.specs.Moves.{Moved}
use Rattle.family_rules.specs.Going.{CanGo}
use Rattle.family_step.proofs.Counted.{begun_count}
use Rattle.family_step.proofs.table.roll_back_top.Goals as goal

pub run-requires-clause-can : goal.run-requires-clause-can
run-requires-clause-can c =
    let f = c.args.state.now.family in
    let d = c.args.out.now in
    let g = c.begin_rollback.new.self.family in
    let e = c.begin_rollback.new.out in
    let rows : length g.rows ≡ length f.rows = ap (λ (m : Moved). length m.family.rows) c.begin_rollback.ensures.moved ∙ begun_count false c.args.reason f in
    let can : CanGo (length f.rows + 3 + 1) f d = subst (λ (n : ℕ). CanGo n f d) (omega arith) c.requires.can in
    subst (λ (n : ℕ). CanGo (n + 3) g e) (sym rows) (c.begin_rollback.ensures.can (length f.rows + 3) can)
