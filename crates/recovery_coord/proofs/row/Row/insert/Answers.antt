use Rattle.std.proofs.Common.{◌∙◌, List, drop, ap, arith}
use Rattle.std.specs.List.{insert}
use Rattle.recovery_coord.specs.declared.held.Held.{Held}
use Rattle.recovery_coord.proofs.Rows.{inserted_behind}
use Rattle.recovery_coord.proofs.row.Row.insert.Goals as goal

pub returns-clause-ok : goal.returns-clause-ok
returns-clause-ok c =
    let xs = c.self.inside.items.items in
    let gone = c.self.inside.gone in
    ap (drop gone) c.in_ok-insert.ensures.items
    ∙ inserted_behind gone c.args.index xs c.args.held (omega (arith, c.self.invariant, c.self.inside.items.ok.0))
    ∙ ap (λ (l : List Held). insert l c.args.index c.args.held) (c.self.view_is ∙ c.close_up.ensures)
