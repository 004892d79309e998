use Rattle.std.proofs.Common.{◌-◌, arith, length}
use Rattle.decision_journal.proofs.Scans.{scanned_filled, scanned_stands}
use Rattle.decision_journal.proofs.scan.filled.Goals as goal

pub returns-clause-filled : goal.returns-clause-filled
returns-clause-filled c =
    scanned_filled c.args.service c.args.octets.now.items _ _ _ _ (c.len.result - length c.in-Ok.value.now) c.deref-2.ensures.value c.in-Ok.ensures.ok (omega (arith, c.len.ensures)) c.truncate.ensures.items _ c.settle.ensures

pub returns-clause-stands : goal.returns-clause-stands
returns-clause-stands c =
    scanned_stands c.args.service c.args.octets.now.items _ _ _ _ (c.len.result - length c.in-Ok.value.now) c.deref-2.ensures.value c.in-Ok.ensures.ok (omega (arith, c.len.ensures)) c.truncate.ensures.items
