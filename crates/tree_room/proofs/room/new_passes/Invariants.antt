use Rattle.std.proofs.Common.{◌≡◌, replicate}
use Rattle.tree_room.proofs.room.new_passes.Given as goal

abbrev pub invariant-loop-number : goal.invariant-loop-number
invariant-loop-number l = l.passes.items ≡ replicate l.number 0
