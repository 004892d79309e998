use Rattle.std.proofs.Common.{take}
use Rattle.std.specs.List.{flat_map}
use Rattle.cdr_values.specs.Tagged.{tagged_values}
use Rattle.ior_refs.specs.Writing.{HasWritten}
use Rattle.ior_refs.proofs.tagged.write_each_tagged.Given as goal

abbrev pub invariant-loop-tagged : goal.invariant-loop-tagged
invariant-loop-tagged l = HasWritten (flat_map tagged_values (take l.tagged-index l.all)) l.fn.writer l.writer
