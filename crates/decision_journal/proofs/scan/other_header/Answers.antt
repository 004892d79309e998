use Rattle.std.proofs.Common.{arith}
use Rattle.decision_journal.specs.Journal.{header}
use Rattle.decision_journal.proofs.Images.{begins_with}
use Rattle.decision_journal.proofs.scan.other_header.Goals as goal

pub returns-clause-same : goal.returns-clause-same
returns-clause-same c = begins_with (header c.args.service) c.args.octets.now (omega (arith, c.requires)) (λ i lt. c.loop-place.invariant i (omega (arith, lt, c.loop-place-test.false)))
