use Rattle.std.proofs.Common.{◌≡◌, length}
use Rattle.ots.proofs.clocks_of.Given as goal

abbrev pub invariant-loop-number : goal.invariant-loop-number
invariant-loop-number g l = length l.clocks.items ≡ l.number
