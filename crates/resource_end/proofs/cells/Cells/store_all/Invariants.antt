use Rattle.std.proofs.Common.{◌≡◌, ◌≤◌, length, drop}
use Rattle.resource_end.specs.Cells.{with_puts}
use Rattle.resource_end.specs.Inside as inside
use Rattle.resource_end.proofs.cells.Cells.store_all.Given as goal

abbrev pub invariant-loop-left : goal.invariant-loop-left
invariant-loop-left l =
    (l.left ≤ length l.puts)
    × (inside.stored_cells l.self ≡ with_puts (drop l.left l.puts) (inside.stored_cells l.initial.self))
    × inside.HoldersStay l.initial.self l.self

abbrev pub decreases-loop-left : goal.decreases-loop-left
decreases-loop-left l = l.left
