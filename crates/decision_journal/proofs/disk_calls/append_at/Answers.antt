use Rattle.std.proofs.Common.{◌+◌, [], ◌∷◌}
use Rattle.decision_journal.proofs.Ways.{way_filled, way_opened}
use Rattle.std.specs.Result.{is_ok}
use Rattle.decision_journal.specs.Asking.{write_calls}
use Rattle.decision_journal.proofs.Asking.{asked_more, begun_more}
use Rattle.decision_journal.proofs.disk_calls.append_at.Goals as goal

pub returns-in-Err-clause-way : goal.returns-in-Err-clause-way
returns-in-Err-clause-way g c =
    way_filled c.args.gate c.args.behind.now (g.D.Disk.told c.args.disk.now) (g.D.Disk.told c.write_and_sync.new.disk) c.write_and_sync.ensures.way

pub returns-clause-way : goal.returns-clause-way
returns-clause-way g c =
    way_opened c.args.gate c.args.behind.now (g.D.Disk.told c.args.disk.now) (g.D.Disk.told c.write_and_sync.new.disk) (g.D.Disk.told c.write_and_sync-2.new.disk) c.in-Ok.ensures.ok c.write_and_sync-2.ensures.way

pub returns-in-Err-clause-asked : goal.returns-in-Err-clause-asked
returns-in-Err-clause-asked g c = begun_more g.D.Disk.asked (write_calls (c.args.gate + 1) c.args.behind.now) (write_calls c.args.gate (1 ∷ [])) c.args.disk.now c.write_and_sync.new.disk c.in-Err.ensures.asked

pub returns-clause-asked : goal.returns-clause-asked
returns-clause-asked g c = asked_more g.D.Disk.asked (is_ok c.write_and_sync-2.result) (write_calls (c.args.gate + 1) c.args.behind.now) (write_calls c.args.gate (1 ∷ [])) c.args.disk.now c.write_and_sync.new.disk c.write_and_sync-2.new.disk c.in-Ok.ensures.asked c.write_and_sync-2.ensures.asked
