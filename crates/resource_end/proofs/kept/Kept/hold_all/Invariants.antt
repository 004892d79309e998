use Rattle.std.proofs.Common.{◌≡◌, ℕ, ◌<◌, get_or}
use Rattle.decision_journal.specs.declared.record.Put.{Put}
use Rattle.resource_end.specs.Inside as inside
use Rattle.resource_end.proofs.kept.Kept.hold_all.Given as goal

abbrev pub invariant-loop-put : goal.invariant-loop-put
invariant-loop-put l =
    (inside.stored_cells l.cells ≡ inside.stored_cells l.initial.cells)
    × inside.Keeps l.contested l.initial.cells l.cells
    × ((k : ℕ) (d : Put) → k < l.put-index → inside.IsHeldBy l.contested l.id (inside.holder_in (get_or l.self.puts k d).cell l.cells))
