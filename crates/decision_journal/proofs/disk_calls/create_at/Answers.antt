use Rattle.std.proofs.Common.{false, true, [], ◌∷◌, ◌++◌}
use Rattle.decision_journal.proofs.Starts.{way_cleared, way_rest, way_letter}
use Rattle.std.specs.Result.{is_ok}
use Rattle.decision_journal.specs.Asking.{clear_calls, write_calls}
use Rattle.decision_journal.specs.Journal.{first_letter}
use Rattle.decision_journal.specs.Laws.{behind_letter}
use Rattle.decision_journal.proofs.Asking.{asked_more, asked_octets, begun_more}
use Rattle.decision_journal.proofs.disk_calls.create_at.Goals as goal

pub returns-in-Err-clause-way : goal.returns-in-Err-clause-way
returns-in-Err-clause-way g c =
    way_cleared c.args.service (g.D.Disk.told c.args.disk.now) (g.D.Disk.told c.clear_letter.new.disk) c.clear_letter.ensures.way

pub returns-in-Err-write_and_sync-clause-way : goal.returns-in-Err-write_and_sync-clause-way
returns-in-Err-write_and_sync-clause-way g c =
    way_rest c.args.service c.behind_letter_of-behind.result c.behind_letter_of-behind.ensures (g.D.Disk.told c.args.disk.now) (g.D.Disk.told c.clear_letter.new.disk) (g.D.Disk.told c.write_and_sync.new.disk) c.in-Ok.ensures.ok c.write_and_sync.ensures.way

pub returns-clause-way : goal.returns-clause-way
returns-clause-way g c =
    way_letter c.args.service c.behind_letter_of-behind.result c.behind_letter_of-behind.ensures (g.D.Disk.told c.args.disk.now) (g.D.Disk.told c.clear_letter.new.disk) (g.D.Disk.told c.write_and_sync.new.disk) c.in-Ok.ensures.ok (g.D.Disk.told c.write_and_sync-2.new.disk) c.in-Ok-write_and_sync.ensures.ok c.write_and_sync-2.ensures.way

pub returns-in-Err-clause-asked : goal.returns-in-Err-clause-asked
returns-in-Err-clause-asked g c = begun_more g.D.Disk.asked (clear_calls c.args.due) (write_calls 1 (behind_letter c.args.service) ++ write_calls 0 (first_letter ∷ [])) c.args.disk.now c.clear_letter.new.disk c.in-Err.ensures.asked

pub returns-in-Err-write_and_sync-clause-asked : goal.returns-in-Err-write_and_sync-clause-asked
returns-in-Err-write_and_sync-clause-asked g c =
    asked_more g.D.Disk.asked false (clear_calls c.args.due) (write_calls 1 (behind_letter c.args.service) ++ write_calls 0 (first_letter ∷ [])) c.args.disk.now c.clear_letter.new.disk c.write_and_sync.new.disk c.in-Ok.ensures.asked (begun_more g.D.Disk.asked (write_calls 1 (behind_letter c.args.service)) (write_calls 0 (first_letter ∷ [])) c.clear_letter.new.disk c.write_and_sync.new.disk (asked_octets g.D.Disk.asked false 1 _ (behind_letter c.args.service) c.clear_letter.new.disk c.write_and_sync.new.disk c.behind_letter_of-behind.ensures c.in-Err-write_and_sync.ensures.asked))

pub returns-clause-asked : goal.returns-clause-asked
returns-clause-asked g c =
    let b = is_ok c.write_and_sync-2.result in
    asked_more g.D.Disk.asked b (clear_calls c.args.due) (write_calls 1 (behind_letter c.args.service) ++ write_calls 0 (first_letter ∷ [])) c.args.disk.now c.clear_letter.new.disk c.write_and_sync-2.new.disk c.in-Ok.ensures.asked
    (asked_more g.D.Disk.asked b (write_calls 1 (behind_letter c.args.service)) (write_calls 0 (first_letter ∷ [])) c.clear_letter.new.disk c.write_and_sync.new.disk c.write_and_sync-2.new.disk (asked_octets g.D.Disk.asked true 1 _ (behind_letter c.args.service) c.clear_letter.new.disk c.write_and_sync.new.disk c.behind_letter_of-behind.ensures c.in-Ok-write_and_sync.ensures.asked) c.write_and_sync-2.ensures.asked)
