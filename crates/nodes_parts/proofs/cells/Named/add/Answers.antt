use Rattle.std.proofs.Common.{◌≡◌, ◌==◌, ◌||◌, Bool, true, false, cond, refl, ap, ◌∙◌}
use Rattle.std.specs.List.{list_any}
use Rattle.std.proofs.lemmas.Cmp.{nat_eq_equiv}
use Rattle.nodes_parts.specs.Cell.{is_cell}
use Rattle.nodes_parts.proofs.cells.Named.add.Goals as goal

-- a choice of `true` is an or
cond-true_or : (a b : Bool) → cond a true b ≡ (a || b)
cond-true_or true b = refl
cond-true_or false b = refl

pub returns-clause-ok : goal.returns-clause-ok
returns-clause-ok c = λ cell.
    let flip : (c.args.cell == cell) ≡ (cell == c.args.cell) = nat_eq_equiv.symm c.args.cell cell in
    let before = ap (list_any (is_cell cell)) c.self.view_is in
    let added = c.in_ok-insert.ensures.updates.0 cell in
    added ∙ cond-true_or (c.args.cell == cell) _ ∙ ap (λ first. first || list_any (is_cell cell) c.self.inside.cells.keys) flip
    ∙ ap (λ rest. (cell == c.args.cell) || rest) before
