use Rattle.std.proofs.Common.{◌≡◌, take}
use Rattle.recovery_coord.specs.Trees.{first_of}
use Rattle.recovery_coord.proofs.trees.first_of.Given as goal

abbrev pub invariant-loop-held : goal.invariant-loop-held
invariant-loop-held l = l.first ≡ first_of l.tree (take l.held-index l.records)
