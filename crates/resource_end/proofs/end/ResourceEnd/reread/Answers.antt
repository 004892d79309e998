use Rattle.std.proofs.Common.{◌∙◌, ◌<◌, ◌≤◌, ◌∷◌, [], length, ap, sym, subst, arith}
use Rattle.std.specs.Prelude.{Ok, Err}
use Rattle.decision_journal.specs.Journal.{Found}
use Rattle.resource_end.specs.Faults.{write_fault}
use Rattle.resource_end.specs.Journaling.{IsCause}
use Rattle.resource_end.specs.Inside.{AreRecorded, HasReadAgain, IsRecallable, last_of}
use Rattle.resource_end.proofs.Rereading.{found_more, found_same, in_doubt, is_ready, known, no_reread, read_cause, read_kind, recallable_cells, stands, stands_not, unread}
use Rattle.resource_end.proofs.Writing.{cells_more, doubts_nothing, last_appended, last_recallable, last_told, more_recorded, seen}
use Rattle.resource_end.proofs.end.ResourceEnd.reread.Goals as goal

pub returns-then-not-failed-clause-rereads : goal.returns-then-not-failed-clause-rereads
returns-then-not-failed-clause-rereads g c =
    let ready = sym c.failed.ensures ∙ c.if-not-failed.true in
    subst (λ s. HasReadAgain g.D.Disk.told s s (Ok tt)) c.self.view_is
    (no_reread g.D.Disk.told c.self.inside.journal c.self.inside.drawn c.self.inside.contents c.self.inside.changed ready
    (doubts_nothing c.self.inside.journal.failed c.self.inside.journal.doubted ready c.self.invariant.failed))

pub returns-in-Err-clause-rereads : goal.returns-in-Err-clause-rereads
returns-in-Err-clause-rereads g c =
    let failed = sym c.failed.ensures ∙ c.if-not-failed.false in
    let doubt = in_doubt c.self.inside.journal c.self.inside.recovery c.self.inside.contents.resources failed c.self.invariant.failed c.self.invariant.recallable in
    subst (λ f. HasReadAgain g.D.Disk.told c.args.self.now (seen c.reopen.new.self c.self.inside.drawn c.self.inside.contents c.self.inside.changed) (Err f)) (sym c.of_write.ensures)
    (subst (λ s. HasReadAgain g.D.Disk.told s (seen c.reopen.new.self c.self.inside.drawn c.self.inside.contents c.self.inside.changed) (Err (write_fault c.in-Err.fault))) c.self.view_is
    (unread g.D.Disk.told c.self.inside.journal c.self.inside.drawn c.self.inside.contents c.self.inside.changed c.reopen.new.self doubt.0 failed doubt.1.0 (write_fault c.in-Err.fault) c.in-Err.ensures.unread c.in-Err.ensures.unwritten
    (read_kind g.D.Disk.wants_memory (g.D.Disk.told c.reopen.new.self.disk) (g.D.Disk.faults c.self.inside.journal.disk) (g.D.Disk.faults c.reopen.new.self.disk) c.in-Err.fault c.in-Err.ensures.fault)))

pub returns-in-Err-clause-fault : goal.returns-in-Err-clause-fault
returns-in-Err-clause-fault g c =
    subst (IsCause g.D.Disk.wants_memory g.D.Disk.told g.D.Disk.faults c.args.self.now.journal c.reopen.new.self) (sym c.of_write.ensures)
    (subst (λ s. IsCause g.D.Disk.wants_memory g.D.Disk.told g.D.Disk.faults s.journal c.reopen.new.self (write_fault c.in-Err.fault)) c.self.view_is
    (read_cause g.D.Disk.wants_memory g.D.Disk.told g.D.Disk.faults c.self.inside.journal c.reopen.new.self c.in-Err.fault
    (sym c.failed.ensures ∙ c.if-not-failed.false) c.in-Err.ensures.fault))

pub recall_last-requires-clause-recorded : goal.recall_last-requires-clause-recorded
recall_last-requires-clause-recorded g c =
    let failed = sym c.failed.ensures ∙ c.if-not-failed.false in
    let doubt = in_doubt c.self.inside.journal c.self.inside.recovery c.self.inside.contents.resources failed c.self.invariant.failed c.self.invariant.recallable in
    let cells = recallable_cells doubt.0 c.self.inside.recovery c.self.inside.contents.resources doubt.1.1 in
    let more : length c.self.inside.journal.found.standing < length c.reopen.new.self.found.standing =
    omega (arith, c.if-standing-known.true, ap length c.standing-known.ensures.same, ap length c.standing.ensures.same) in
    let finds = known g.D.Disk.told c.self.inside.journal c.self.inside.drawn c.self.inside.contents c.self.inside.changed c.reopen.new.self doubt.0 failed doubt.1.0 c.in_default.ensures.read in
    let found = found_more c.self.inside.journal.octets c.reopen.new.self.octets c.self.inside.journal.found c.reopen.new.self.found doubt.0 finds more in
    let standing = c.standing-then-standing-known.ensures.same
    ∙ ap (λ (f : Found). f.standing) (found ∙ cells_more c.self.inside.journal.found (length c.self.inside.journal.octets) doubt.0 cells) in
    subst (λ xs. AreRecorded xs c.self.inside.contents.resources) (sym standing)
    (more_recorded c.self.inside.journal.found.standing (record { place = length c.self.inside.journal.octets; item = doubt.0 } ∷ []) c.self.inside.contents.resources c.self.invariant.recorded)

pub recall_last-requires-clause-last : goal.recall_last-requires-clause-last
recall_last-requires-clause-last g c =
    let failed = sym c.failed.ensures ∙ c.if-not-failed.false in
    let doubt = in_doubt c.self.inside.journal c.self.inside.recovery c.self.inside.contents.resources failed c.self.invariant.failed c.self.invariant.recallable in
    let cells = recallable_cells doubt.0 c.self.inside.recovery c.self.inside.contents.resources doubt.1.1 in
    let more : length c.self.inside.journal.found.standing < length c.reopen.new.self.found.standing =
    omega (arith, c.if-standing-known.true, ap length c.standing-known.ensures.same, ap length c.standing.ensures.same) in
    let finds = known g.D.Disk.told c.self.inside.journal c.self.inside.drawn c.self.inside.contents c.self.inside.changed c.reopen.new.self doubt.0 failed doubt.1.0 c.in_default.ensures.read in
    let found = found_more c.self.inside.journal.octets c.reopen.new.self.octets c.self.inside.journal.found c.reopen.new.self.found doubt.0 finds more in
    let standing = c.standing-then-standing-known.ensures.same
    ∙ ap (λ (f : Found). f.standing) (found ∙ cells_more c.self.inside.journal.found (length c.self.inside.journal.octets) doubt.0 cells) in
    let last = ap last_of standing ∙ last_appended c.self.inside.journal.found.standing (record { place = length c.self.inside.journal.octets; item = doubt.0 }) in
    last_recallable c.standing-then-standing-known.result.now (record { place = length c.self.inside.journal.octets; item = doubt.0 }) _ c.self.inside.contents.resources last
    (subst (λ recovery. IsRecallable doubt.0 recovery c.self.inside.contents.resources) (sym c.replace-recovery.ensures.value) doubt.1.1)

pub returns-then-standing-known-clause-rereads : goal.returns-then-standing-known-clause-rereads
returns-then-standing-known-clause-rereads g c =
    let failed = sym c.failed.ensures ∙ c.if-not-failed.false in
    let doubt = in_doubt c.self.inside.journal c.self.inside.recovery c.self.inside.contents.resources failed c.self.invariant.failed c.self.invariant.recallable in
    let cells = recallable_cells doubt.0 c.self.inside.recovery c.self.inside.contents.resources doubt.1.1 in
    let more : length c.self.inside.journal.found.standing < length c.reopen.new.self.found.standing =
    omega (arith, c.if-standing-known.true, ap length c.standing-known.ensures.same, ap length c.standing.ensures.same) in
    let finds = known g.D.Disk.told c.self.inside.journal c.self.inside.drawn c.self.inside.contents c.self.inside.changed c.reopen.new.self doubt.0 failed doubt.1.0 c.in_default.ensures.read in
    let found = found_more c.self.inside.journal.octets c.reopen.new.self.octets c.self.inside.journal.found c.reopen.new.self.found doubt.0 finds more in
    let standing = c.standing-then-standing-known.ensures.same
    ∙ ap (λ (f : Found). f.standing) (found ∙ cells_more c.self.inside.journal.found (length c.self.inside.journal.octets) doubt.0 cells) in
    let last = ap last_of standing ∙ last_appended c.self.inside.journal.found.standing (record { place = length c.self.inside.journal.octets; item = doubt.0 }) in
    subst (λ s. HasReadAgain g.D.Disk.told s (seen c.reopen.new.self c.self.inside.drawn c.recall_last.new.self c.self.inside.changed) (Ok tt)) c.self.view_is
    (stands g.D.Disk.told c.self.inside.journal c.self.inside.drawn c.self.inside.contents c.self.inside.changed c.reopen.new.self doubt.0 failed doubt.1.0 c.recall_last.new.self
    (is_ready g.D.Disk.told c.self.inside.journal c.self.inside.drawn c.self.inside.contents c.self.inside.changed c.reopen.new.self doubt.0 failed doubt.1.0 c.in_default.ensures.read c.in_default.ensures.current c.in_default.ensures.disk) cells found
    (last_told c.standing-then-standing-known.result.now (record { place = length c.self.inside.journal.octets; item = doubt.0 }) c.self.inside.contents c.recall_last.new.self last
    c.recall_last.ensures.told))

pub returns-else-standing-known-clause-rereads : goal.returns-else-standing-known-clause-rereads
returns-else-standing-known-clause-rereads g c =
    let failed = sym c.failed.ensures ∙ c.if-not-failed.false in
    let doubt = in_doubt c.self.inside.journal c.self.inside.recovery c.self.inside.contents.resources failed c.self.invariant.failed c.self.invariant.recallable in
    let cells = recallable_cells doubt.0 c.self.inside.recovery c.self.inside.contents.resources doubt.1.1 in
    let less : length c.reopen.new.self.found.standing ≤ length c.self.inside.journal.found.standing =
    omega (arith, c.if-standing-known.false, ap length c.standing-known.ensures.same, ap length c.standing.ensures.same) in
    let finds = known g.D.Disk.told c.self.inside.journal c.self.inside.drawn c.self.inside.contents c.self.inside.changed c.reopen.new.self doubt.0 failed doubt.1.0 c.in_default.ensures.read in
    subst (λ s. HasReadAgain g.D.Disk.told s (seen c.reopen.new.self c.self.inside.drawn c.self.inside.contents c.self.inside.changed) (Ok tt)) c.self.view_is
    (stands_not g.D.Disk.told c.self.inside.journal c.self.inside.drawn c.self.inside.contents c.self.inside.changed c.reopen.new.self doubt.0 failed doubt.1.0
    (is_ready g.D.Disk.told c.self.inside.journal c.self.inside.drawn c.self.inside.contents c.self.inside.changed c.reopen.new.self doubt.0 failed doubt.1.0 c.in_default.ensures.read c.in_default.ensures.current c.in_default.ensures.disk)
    (found_same c.self.inside.journal.octets c.reopen.new.self.octets c.self.inside.journal.found c.reopen.new.self.found doubt.0 cells finds less))
