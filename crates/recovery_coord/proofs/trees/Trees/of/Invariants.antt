use Rattle.std.proofs.Common.{take}
use Rattle.recovery_coord.specs.Trees.{IsIndex}
use Rattle.recovery_coord.proofs.trees.Trees.of.Given as goal

abbrev pub invariant-loop-held : goal.invariant-loop-held
invariant-loop-held l = IsIndex l.trees.firsts (take l.held-index l.records)
