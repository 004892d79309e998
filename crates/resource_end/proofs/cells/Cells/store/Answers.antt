use Rattle.std.proofs.Common.{◌∙◌, Some, refl, ap, sym, subst}
use Rattle.std.specs.Option.{IsSome, option_map}
use Rattle.std.proofs.lemmas.Bool.{false≢true}
use Rattle.resource_end.specs.Cells.{with_put}
use Rattle.resource_end.specs.Inside.{holder_in, stored_cells}
use Rattle.resource_end.proofs.Known.{stored_there}
use Rattle.resource_end.proofs.cells.Cells.store.Goals as goal
use Rattle.resource_end.proofs.cells.Cells.store.Goals.{in-Some, in_default}

pub returns-clause-stored : goal.returns-clause-stored
returns-clause-stored c = elim c.match-get_mut.branch [
  | in-Some w ↦
      ap (λ s. stored_cells s.map.entries) w.self-inside-is
      ∙ ap stored_cells (c.get_mut.follows.holds (record { stored = Some c.args.put.value; holder = w.in-Some.known.now.holder })).0
      ∙ stored_there c.args.put.cell c.args.put.value (record { stored = Some c.args.put.value; holder = w.in-Some.known.now.holder }) w.in-Some.known.now refl c.self.inside.map.entries c.self.invariant
      (sym w.in-Some.ensures.value)
      ∙ ap (λ xs. with_put c.args.put (stored_cells xs)) c.self.view_is
  | in_default w ↦
      absurd (false≢true (subst IsSome (ap (λ xs. holder_in c.args.put.cell xs) (sym c.self.view_is) ∙ ap (λ o. option_map (λ x. x.holder) o) (sym w.in_default.ensures.value)) c.requires.known))
]
