use Rattle.std.proofs.Common.{◌≡◌, None}
use Rattle.std.specs.Prelude.{IfSome}
use Rattle.resource_end.specs.Inside as inside
use Rattle.resource_end.proofs.kept.Resources.hold_all.Given as goal

abbrev pub invariant-loop-id : goal.invariant-loop-id
invariant-loop-id l =
    (inside.stored_cells l.cells ≡ inside.stored_cells l.initial.cells)
    × ((k : inside.Id) → IfSome (inside.numbered k l.self) (λ r. inside.numbered k (inside.resources_of l.id-iterator) ≡ None → inside.HoldsItsCells l.contested l.cells k r))
