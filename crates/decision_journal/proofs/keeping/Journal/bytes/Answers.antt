use Rattle.std.proofs.Common.{inr, []}
use Rattle.std.proofs.lemmas.Result.{err_from_is_err_and}
use Rattle.decision_journal.proofs.Joined.{wanting_fault}
use Rattle.decision_journal.proofs.Calls.{ready_of, unready_reading}
use Rattle.decision_journal.specs.Asking.{no_calls}
use Rattle.decision_journal.proofs.Asking.{begun_none, some_reread, some_then}
use Rattle.decision_journal.proofs.keeping.Journal.bytes.Goals as goal

pub returns-clause-ready : goal.returns-clause-ready
returns-clause-ready g c =
    ready_of g.D.Disk.told c.args.self.now c.ready.new.self c.in-Ok.ensures.read c.in-Ok.ensures.disk c.in-Ok.ensures.current

pub returns-in-Err-clause-refused : goal.returns-in-Err-clause-refused
returns-in-Err-clause-refused g c =
    unready_reading g.D.Disk.told c.args.self.now c.ready.new.self c.in-Err.ensures.unread c.in-Err.ensures.unwritten c.in-Err.ensures.was _ _ _ _ _ c.in-Err.ensures.fault

pub returns-in_err-put_bytes-clause-refused : goal.returns-in_err-put_bytes-clause-refused
returns-in_err-put_bytes-clause-refused g c =
    let p = err_from_is_err_and c.from_residual.result c.from_residual.ensures.1 in
    rw (p.1, p.2) (inr (ready_of g.D.Disk.told c.args.self.now c.ready.new.self c.in-Ok.ensures.read c.in-Ok.ensures.disk c.in-Ok.ensures.current))

pub returns-in-Err-clause-fault : goal.returns-in-Err-clause-fault
returns-in-Err-clause-fault g c =
    wanting_fault _ _ _ _ _ c.in-Err.ensures.fault

pub returns-in-Err-clause-begun : goal.returns-in-Err-clause-begun
returns-in-Err-clause-begun g c = some_reread g.D.Disk.asked g.D.Disk.told c.args.self.now no_calls c.ready.new.self.disk c.in-Err.ensures.was c.in-Err.ensures.begun

pub returns-in_err-put_bytes-clause-begun : goal.returns-in_err-put_bytes-clause-begun
returns-in_err-put_bytes-clause-begun g c =
    let p = err_from_is_err_and c.from_residual.result c.from_residual.ensures.1 in
    rw (p.1) (some_then g.D.Disk.asked g.D.Disk.told c.args.self.now no_calls c.ready.new.self c.ready.new.self.disk
    (ready_of g.D.Disk.told c.args.self.now c.ready.new.self c.in-Ok.ensures.read c.in-Ok.ensures.disk c.in-Ok.ensures.current) c.in-Ok.ensures.asked
    (begun_none g.D.Disk.asked [] c.ready.new.self.disk))
