use Rattle.std.proofs.Common.{◌≡◌, None, replicate}
use Rattle.service_node.proofs.slots.Slots.empty.Given as goal

abbrev pub invariant-loop-slot : goal.invariant-loop-slot
invariant-loop-slot l = l.items.items ≡ replicate l.slot None
