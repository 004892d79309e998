use Rattle.std.specs.Result.{is_ok}
use Rattle.decision_journal.proofs.Asking.{clear_asked, clear_none}
use Rattle.decision_journal.proofs.disk_calls.clear_letter.Goals as goal

pub returns-then-not-due-clause-asked : goal.returns-then-not-due-clause-asked
returns-then-not-due-clause-asked g c = clear_none g.D.Disk.asked c.args.due c.args.disk.now c.if-not-due.true

pub returns-clause-asked : goal.returns-clause-asked
returns-clause-asked g c = clear_asked g.D.Disk.asked (is_ok c.write_and_sync.result) c.args.due c.args.disk.now c.write_and_sync.new.disk c.if-not-due.false c.write_and_sync.ensures.asked
