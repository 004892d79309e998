use Rattle.std.proofs.Common.{◌∙◌}
use Rattle.std.specs.Result.{is_ok}
use Rattle.decision_journal.proofs.Asking.{length_refused, reread_rest, size_synced, sync_refused}
use Rattle.decision_journal.proofs.Ways.{synced_way}
use Rattle.decision_journal.proofs.disk_calls.read_along.Goals as goal

pub returns-in-Err-len-clause-way : goal.returns-in-Err-len-clause-way
returns-in-Err-len-clause-way g c = synced_way _ _ _ c.len.ensures.untouched c.in-Ok.ensures.whole c.sync.ensures.image.1

pub returns-clause-way : goal.returns-clause-way
returns-clause-way g c = synced_way _ _ _ (c.go_along.ensures.untouched ∙ c.len.ensures.untouched) c.in-Ok.ensures.whole c.sync.ensures.image.1

pub returns-in-Err-clause-asked : goal.returns-in-Err-clause-asked
returns-in-Err-clause-asked g c = sync_refused g.D.Disk.asked g.D.Disk.told c.args.disk.now c.sync.new.self c.in-Err.ensures.asked

pub returns-in-Err-len-clause-asked : goal.returns-in-Err-len-clause-asked
returns-in-Err-len-clause-asked g c = length_refused g.D.Disk.asked g.D.Disk.told c.args.disk.now c.sync.new.self c.len.new.self c.in-Ok.ensures.asked c.in-Err-len.ensures.asked

pub returns-clause-asked : goal.returns-clause-asked
returns-clause-asked g c = reread_rest g.D.Disk.asked g.D.Disk.told c.args.disk.now c.sync.new.self c.in-Ok-len.value c.len.new.self (size_synced c.in-Ok-len.value (g.D.Disk.told c.args.disk.now) (g.D.Disk.told c.sync.new.self) c.in-Ok.ensures.whole c.in-Ok-len.ensures.length) c.in-Ok.ensures.asked c.in-Ok-len.ensures.asked (is_ok c.go_along.result) c.go_along.new.disk c.go_along.ensures.asked
