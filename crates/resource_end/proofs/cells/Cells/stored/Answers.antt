use Rattle.std.proofs.Common.{◌∙◌, ap}
use Rattle.std.specs.Option.{option_and_then}
use Rattle.resource_end.specs.declared.cells.Cell.{Cell}
use Rattle.resource_end.specs.Cells.{value_at}
use Rattle.resource_end.specs.Inside.{stored_cells}
use Rattle.resource_end.proofs.Known.{one_cell}
use Rattle.resource_end.proofs.cells.Cells.stored.Goals as goal

pub returns-in-Some : goal.returns-in-Some
returns-in-Some c =
    ap (option_and_then (λ (x : Cell). x.stored)) c.in-Some.ensures.value
    ∙ one_cell c.args.cell c.self.inside.map.entries c.self.invariant
    ∙ ap (λ xs. value_at c.args.cell (stored_cells xs)) c.self.view_is

pub returns-in-None : goal.returns-in-None
returns-in-None c =
    ap (option_and_then (λ (x : Cell). x.stored)) c.in-None.ensures.value
    ∙ one_cell c.args.cell c.self.inside.map.entries c.self.invariant
    ∙ ap (λ xs. value_at c.args.cell (stored_cells xs)) c.self.view_is
