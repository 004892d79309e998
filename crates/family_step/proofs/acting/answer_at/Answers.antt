use Rattle.std.proofs.Common.{◌≡◌, ◌∙◌, ◌+◌, ℕ, sym, subst, length, arith}
use Rattle.family_rules.specs.Going.{CanGo}
use Rattle.family_step.proofs.acting.answer_at.Goals as goal

pub go_on-requires : goal.go_on-requires
go_on-requires c =
    let f = c.args.state.now.family in
    let d = c.args.out.now in
    let h = c.hear.new.self.family in
    let k = c.hear.new.out in
    let g = c.settle.new.self.family in
    let e = c.settle.new.out in
    let rows : length g.rows ≡ length f.rows = c.settle.ensures.count ∙ c.hear.ensures.count in
    let can : CanGo (length f.rows + 6 + 2) f d = subst (λ (n : ℕ). CanGo n f d) (omega arith) c.requires.can in
    let heard : CanGo (length f.rows + 6) h k = c.hear.ensures.can (length f.rows + 6) can in
    let then : CanGo (length f.rows + 3 + 3) h k = subst (λ (n : ℕ). CanGo n h k) (omega arith) heard in
    record { can = subst (λ (n : ℕ). CanGo (n + 3) g e) (sym rows) (c.settle.ensures.can (length f.rows + 3) then) }
