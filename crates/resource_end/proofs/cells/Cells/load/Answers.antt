use Rattle.std.proofs.Common.{◌∙◌, Some, None, refl, ap}
use Rattle.resource_end.specs.Cells.{with_put}
use Rattle.resource_end.specs.Inside.{stored_cells}
use Rattle.resource_end.proofs.Known.{stored_one}
use Rattle.resource_end.proofs.cells.Cells.load.Goals as goal

pub returns : goal.returns
returns c = record {
  stored = ap stored_cells c.in-Ok.ensures.entries
      ∙ stored_one c.args.put.cell c.args.put.value (record { stored = Some c.args.put.value; holder = None }) refl c.self.inside.map.entries c.self.invariant
      ∙ ap (λ xs. with_put c.args.put (stored_cells xs)) c.self.view_is;
}
