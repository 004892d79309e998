use Rattle.std.proofs.Common.{◌≡◌, ◌++◌, take, map}
use Rattle.std.specs.Prelude.{codes}
use Rattle.ots_program.specs.MessageLine.{visible}
use Rattle.ots_program.proofs.message_line.write_operation.Given as goal

abbrev pub invariant-loop-octet : goal.invariant-loop-octet
invariant-loop-octet l = l.lines.items ≡ l.fn.lines.items ++ (codes " op " ++ map visible (take l.octet-index l.operation))
