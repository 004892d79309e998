use Rattle.std.proofs.Common.{◌≡◌, ◌∙◌, Some, None, refl, ap, sym}
use Rattle.std.specs.BTreeMap.{is_at}
use Rattle.std.specs.Map.{lookup}
use Rattle.std.specs.Ordering.{nat_cmp}
use Rattle.resource_end.specs.Inside.{stored_cells}
use Rattle.resource_end.proofs.Known.{same_there, same_with}
use Rattle.resource_end.proofs.cells.Cells.hold.Goals as goal

pub returns-in-Some-clause-stored : goal.returns-in-Some-clause-stored
returns-in-Some-clause-stored c =
    ap stored_cells (c.get_mut.follows.holds (record { stored = c.in-Some.known.now.stored; holder = Some c.args.id })).0
    ∙ same_there c.args.cell (record { stored = c.in-Some.known.now.stored; holder = Some c.args.id }) c.in-Some.known.now refl c.self.inside.map.entries (sym c.in-Some.ensures.value)
    ∙ ap stored_cells c.self.view_is

pub returns-clause-stored : goal.returns-clause-stored
returns-clause-stored c =
    let n = c.get_mut.follows.lender-at-none in
    let back : n ≡ c.self.inside.map = c.get_mut.follows.holds-at-none in
    ap stored_cells c.in-Ok.ensures.entries
    ∙ same_with c.args.cell (record { stored = None; holder = Some c.args.id }) refl n.entries
    (ap (λ m. lookup (is_at (nat_cmp c.args.cell)) m.entries) back ∙ sym c.in_default.ensures.value)
    ∙ ap (λ m. stored_cells m.entries) back
    ∙ ap stored_cells c.self.view_is
