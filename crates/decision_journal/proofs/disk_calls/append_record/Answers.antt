use Rattle.std.proofs.Common.{◌≡◌, ◌∙◌, ◌-◌, length, arith, false, true}
use Rattle.decision_journal.specs.Laws.{IsOnTheWay, appended, behind_gate}
use Rattle.decision_journal.proofs.Kept.{laid_record, laid_slice, retold}
use Rattle.decision_journal.proofs.Asking.{asked_as}
use Rattle.decision_journal.proofs.disk_calls.append_record.Goals as goal

pub returns-in-Err-clause-way : goal.returns-in-Err-clause-way
returns-in-Err-clause-way g c =
    let gate : c.len-gate.result ≡ length c.args.octets.now.items = omega (arith, c.len-gate.ensures) in
    retold _ _ (λ p b s t. IsOnTheWay s (appended p b s) t) c.len-gate.result _ _ (behind_gate c.args.item.now) gate
    (laid_slice c.args.octets.now.items c.put_closed_record.new.octets.items c.args.item.now c.len-gate.result c.put_closed_record.ensures.octets gate c.deref.result.now c.deref.ensures.value) c.append_at.ensures.way

pub returns-clause-way : goal.returns-clause-way
returns-clause-way g c =
    let gate : c.len-gate.result ≡ length c.args.octets.now.items = omega (arith, c.len-gate.ensures) in
    retold _ _ (λ p b s t. IsOnTheWay s (appended p b s) t) c.len-gate.result _ _ (behind_gate c.args.item.now) gate
    (laid_slice c.args.octets.now.items c.put_closed_record.new.octets.items c.args.item.now c.len-gate.result c.put_closed_record.ensures.octets gate c.deref.result.now c.deref.ensures.value) c.append_at.ensures.way

pub returns-clause-ok : goal.returns-clause-ok
returns-clause-ok g c =
    let gate : c.len-gate.result ≡ length c.args.octets.now.items = omega (arith, c.len-gate.ensures) in
    retold _ _ (λ p b s t. t ≡ appended p b s) c.len-gate.result _ _ (behind_gate c.args.item.now) gate
    (laid_slice c.args.octets.now.items c.put_closed_record.new.octets.items c.args.item.now c.len-gate.result c.put_closed_record.ensures.octets gate c.deref.result.now c.deref.ensures.value) c.in_default.ensures.ok

pub returns-clause-more : goal.returns-clause-more
returns-clause-more g c =
    let gate : c.len-gate.result ≡ length c.args.octets.now.items = omega (arith, c.len-gate.ensures) in
    c.truncate-2.ensures.items ∙ laid_record c.args.octets.now.items c.put_closed_record.new.octets.items c.args.item.now c.len-gate.result c.put_closed_record.ensures.octets gate (c.len-end.result - 1) (omega (arith, c.len-end.ensures))

pub returns-in-Err-clause-asked : goal.returns-in-Err-clause-asked
returns-in-Err-clause-asked g c =
    let gate : c.len-gate.result ≡ length c.args.octets.now.items = omega (arith, c.len-gate.ensures) in
    asked_as g.D.Disk.asked false c.len-gate.result _ _ (behind_gate c.args.item.now) c.args.disk.now c.append_at.new.disk gate
    (laid_slice c.args.octets.now.items c.put_closed_record.new.octets.items c.args.item.now c.len-gate.result c.put_closed_record.ensures.octets gate c.deref.result.now c.deref.ensures.value) c.in-Err.ensures.asked

pub returns-clause-asked : goal.returns-clause-asked
returns-clause-asked g c =
    let gate : c.len-gate.result ≡ length c.args.octets.now.items = omega (arith, c.len-gate.ensures) in
    asked_as g.D.Disk.asked true c.len-gate.result _ _ (behind_gate c.args.item.now) c.args.disk.now c.append_at.new.disk gate
    (laid_slice c.args.octets.now.items c.put_closed_record.new.octets.items c.args.item.now c.len-gate.result c.put_closed_record.ensures.octets gate c.deref.result.now c.deref.ensures.value) c.in_default.ensures.asked
