use Rattle.std.proofs.Common.{ℕ, false, true, length, ap, sym, subst, ◌∙◌}
use Rattle.std.proofs.lemmas.Result.{err_from_is_err_and}
use Rattle.decision_journal.specs.Asking.{AsksReads}
use Rattle.decision_journal.proofs.Asking.{length_refused, reads_left, reread_rest, size_synced, sync_refused}
use Rattle.decision_journal.proofs.Ways.{synced_told, synced_way}
use Rattle.decision_journal.proofs.disk_calls.read_whole.Goals as goal

pub returns-in-Err-len-clause-way : goal.returns-in-Err-len-clause-way
returns-in-Err-len-clause-way g c = synced_way _ _ _ c.len.ensures.untouched c.in-Ok.ensures.whole c.sync.ensures.image.1

pub returns-in_err-octets-clause-way : goal.returns-in_err-octets-clause-way
returns-in_err-octets-clause-way g c = synced_way _ _ _ c.len.ensures.untouched c.in-Ok.ensures.whole c.sync.ensures.image.1

pub returns-in-Err-read_pieces-clause-way : goal.returns-in-Err-read_pieces-clause-way
returns-in-Err-read_pieces-clause-way g c = synced_way _ _ _ (c.read_pieces.ensures.untouched ∙ c.len.ensures.untouched) c.in-Ok.ensures.whole c.sync.ensures.image.1

pub returns-clause-way : goal.returns-clause-way
returns-clause-way g c = synced_way _ _ _ (c.read_pieces.ensures.untouched ∙ c.len.ensures.untouched) c.in-Ok.ensures.whole c.sync.ensures.image.1

pub returns-clause-settled : goal.returns-clause-settled
returns-clause-settled g c = synced_told _ _ _ (c.read_pieces.ensures.untouched ∙ c.len.ensures.untouched) c.in-Ok.ensures.whole

pub returns-in-Err-clause-asked : goal.returns-in-Err-clause-asked
returns-in-Err-clause-asked g c = sync_refused g.D.Disk.asked g.D.Disk.told c.args.disk.now c.sync.new.self c.in-Err.ensures.asked

pub returns-in-Err-len-clause-asked : goal.returns-in-Err-len-clause-asked
returns-in-Err-len-clause-asked g c = length_refused g.D.Disk.asked g.D.Disk.told c.args.disk.now c.sync.new.self c.len.new.self c.in-Ok.ensures.asked c.in-Err-len.ensures.asked

pub returns-in_err-octets-clause-asked : goal.returns-in_err-octets-clause-asked
returns-in_err-octets-clause-asked g c =
    let p = err_from_is_err_and c.from_residual.result c.from_residual.ensures.1 in
    rw (p.1) (reads_left g.D.Disk.asked g.D.Disk.told c.args.disk.now c.sync.new.self c.in-Ok-len.value c.len.new.self (size_synced c.in-Ok-len.value (g.D.Disk.told c.args.disk.now) (g.D.Disk.told c.sync.new.self) c.in-Ok.ensures.whole c.in-Ok-len.ensures.length) c.in-Ok.ensures.asked c.in-Ok-len.ensures.asked)

pub returns-in-Err-read_pieces-clause-asked : goal.returns-in-Err-read_pieces-clause-asked
returns-in-Err-read_pieces-clause-asked g c = reread_rest g.D.Disk.asked g.D.Disk.told c.args.disk.now c.sync.new.self c.in-Ok-len.value c.len.new.self (size_synced c.in-Ok-len.value (g.D.Disk.told c.args.disk.now) (g.D.Disk.told c.sync.new.self) c.in-Ok.ensures.whole c.in-Ok-len.ensures.length) c.in-Ok.ensures.asked c.in-Ok-len.ensures.asked false c.read_pieces.new.disk (subst (λ (n : ℕ). AsksReads g.D.Disk.asked n false c.len.new.self c.read_pieces.new.disk) {y = c.in-Ok-len.value} (ap length c.deref_mut.ensures.value ∙ (sym c.in_ok-octets.octets.ok.0 ∙ c.in_ok-octets.ensures.len)) c.in-Err-read_pieces.ensures.asked)

pub returns-clause-asked : goal.returns-clause-asked
returns-clause-asked g c = reread_rest g.D.Disk.asked g.D.Disk.told c.args.disk.now c.sync.new.self c.in-Ok-len.value c.len.new.self (size_synced c.in-Ok-len.value (g.D.Disk.told c.args.disk.now) (g.D.Disk.told c.sync.new.self) c.in-Ok.ensures.whole c.in-Ok-len.ensures.length) c.in-Ok.ensures.asked c.in-Ok-len.ensures.asked true c.read_pieces.new.disk (subst (λ (n : ℕ). AsksReads g.D.Disk.asked n true c.len.new.self c.read_pieces.new.disk) {y = c.in-Ok-len.value} (ap length c.deref_mut.ensures.value ∙ (sym c.in_ok-octets.octets.ok.0 ∙ c.in_ok-octets.ensures.len)) c.in-Ok-read_pieces.ensures.asked)
