use Rattle.std.proofs.Common.{◌≡◌, length}
use Rattle.ots.proofs.links_over.Given as goal

abbrev pub invariant-loop-number : goal.invariant-loop-number
invariant-loop-number g l = length l.links.items ≡ l.number
