use Rattle.std.proofs.Common.{[], ◌∷◌}
use Rattle.decision_journal.proofs.Ways.{tells_weaker, pair_first}
use Rattle.std.specs.Result.{is_ok}
use Rattle.ots_outside.specs.Asked.{AskSync, AskWrite}
use Rattle.decision_journal.proofs.Asking.{asked_write, begun_first}
use Rattle.decision_journal.proofs.disk_calls.write_and_sync.Goals as goal

pub returns-in-Err-clause-way : goal.returns-in-Err-clause-way
returns-in-Err-clause-way g c =
    tells_weaker (g.D.Disk.told c.args.disk.now) (g.D.Disk.told c.write_at.new.self) _ _ (pair_first c.args.place c.args.octets.now) c.in-Err.ensures.refused

pub returns-in-Err-clause-asked : goal.returns-in-Err-clause-asked
returns-in-Err-clause-asked g c = begun_first g.D.Disk.asked (AskWrite c.args.place c.args.octets.now) (AskSync ∷ []) c.args.disk.now c.write_at.new.self c.in-Err.ensures.asked

pub returns-clause-asked : goal.returns-clause-asked
returns-clause-asked g c = asked_write g.D.Disk.asked (is_ok c.sync.result) c.args.place c.args.octets.now c.args.disk.now c.write_at.new.self c.sync.new.self c.in-Ok.ensures.asked c.sync.ensures.asked
