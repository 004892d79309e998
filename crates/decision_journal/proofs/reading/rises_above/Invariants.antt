use Rattle.std.proofs.Common.{◌≡◌, drop}
use Rattle.decision_journal.specs.Layout.{rises_from}
use Rattle.decision_journal.proofs.reading.rises_above.Given as goal

abbrev pub invariant-loop-put : goal.invariant-loop-put
invariant-loop-put l = rises_from l.fn.cell l.puts ≡ rises_from l.below (drop l.put-index l.puts)
