use Rattle.std.proofs.Common.{◌≡◌, ◌∙◌, ◌∷◌, [], inr, false, Some, ap, sym, subst}
use Rattle.std.specs.Prelude.{IsTrue, Ok, Err}
use Rattle.decision_journal.specs.Calls.{HasAppended, IsRefusedAppend}
use Rattle.decision_journal.specs.Journal.{Found, can_follow}
use Rattle.decision_journal.specs.State.{IsAppendFault}
use Rattle.resource_end.specs.declared.fault.EndFault.TheVariants as faults
use Rattle.resource_end.specs.Faults.{write_fault}
use Rattle.resource_end.specs.Journaling.{CanStand, IsCause}
use Rattle.resource_end.specs.Inside.{AreRecorded, HasWritten, IsRecallable, last_of, told_by_record}
use Rattle.resource_end.proofs.Rereading.{append_cause}
use Rattle.resource_end.proofs.Writing.{appended_found, doubts_nothing, last_appended, last_recallable, last_told, more_recorded, refused, seen, starved, wrote}
use Rattle.resource_end.proofs.end.ResourceEnd.write.Goals as goal

pub returns-in-Err-clause-writes : goal.returns-in-Err-clause-writes
returns-in-Err-clause-writes g c =
    subst (λ s. HasWritten g.D.Disk.told s (seen c.room_for.new.journal c.self.inside.drawn c.self.inside.contents c.self.inside.changed) (Err faults.Memory)
    (Some c.args.item) (λ written. told_by_record written c.args.item)) c.self.view_is
    (starved g.D.Disk.told c.self.inside.journal c.room_for.new.journal c.room_for.new.journal.room c.self.inside.drawn c.self.inside.contents c.self.inside.changed
    c.args.item (doubts_nothing c.self.inside.journal.failed c.self.inside.journal.doubted
    (subst (λ s. s.journal.failed ≡ false) (sym c.self.view_is) c.requires.ready) c.self.invariant.failed) c.room_for.ensures.same)

pub recall_last-requires-clause-recorded : goal.recall_last-requires-clause-recorded
recall_last-requires-clause-recorded g c =
    let ready = subst (λ s. s.journal.failed ≡ false) (sym c.self.view_is) c.requires.ready in
    let none = doubts_nothing c.self.inside.journal.failed c.self.inside.journal.doubted ready c.self.invariant.failed in
    let more = subst (λ j. HasAppended g.D.Disk.told j c.args.item c.append.new.self c.in-Ok-append.field-0) c.room_for.ensures.same c.in-Ok-append.ensures.more in
    let found = appended_found g.D.Disk.told c.self.inside.journal c.append.new.self c.room_for.new.journal.room c.self.inside.drawn c.self.inside.contents c.self.inside.changed
    c.args.item none c.in-Ok-append.field-0 c.requires.cells more in
    subst (λ xs. AreRecorded xs c.self.inside.contents.resources) (sym (c.standing.ensures.same ∙ ap (λ (f : Found). f.standing) found))
    (more_recorded c.self.inside.journal.found.standing (record { place = c.in-Ok-append.field-0; item = c.args.item } ∷ []) c.self.inside.contents.resources c.self.invariant.recorded)

pub recall_last-requires-clause-last : goal.recall_last-requires-clause-last
recall_last-requires-clause-last g c =
    let ready = subst (λ s. s.journal.failed ≡ false) (sym c.self.view_is) c.requires.ready in
    let none = doubts_nothing c.self.inside.journal.failed c.self.inside.journal.doubted ready c.self.invariant.failed in
    let more = subst (λ j. HasAppended g.D.Disk.told j c.args.item c.append.new.self c.in-Ok-append.field-0) c.room_for.ensures.same c.in-Ok-append.ensures.more in
    let found = appended_found g.D.Disk.told c.self.inside.journal c.append.new.self c.room_for.new.journal.room c.self.inside.drawn c.self.inside.contents c.self.inside.changed
    c.args.item none c.in-Ok-append.field-0 c.requires.cells more in
    let last = ap last_of (c.standing.ensures.same ∙ ap (λ (f : Found). f.standing) found)
    ∙ last_appended c.self.inside.journal.found.standing (record { place = c.in-Ok-append.field-0; item = c.args.item }) in
    last_recallable c.standing.result.now (record { place = c.in-Ok-append.field-0; item = c.args.item }) _ c.self.inside.contents.resources last
    (subst (λ s. IsRecallable c.args.item c.in-Ok.recovery s.end.resources) (sym c.self.view_is)
    (subst (λ recovery. IsRecallable c.args.item recovery c.args.self.now.end.resources) (sym c.in-Ok.ensures.named) c.requires.recallable))

pub returns-in-Ok-append-clause-writes : goal.returns-in-Ok-append-clause-writes
returns-in-Ok-append-clause-writes g c =
    let ready = subst (λ s. s.journal.failed ≡ false) (sym c.self.view_is) c.requires.ready in
    let none = doubts_nothing c.self.inside.journal.failed c.self.inside.journal.doubted ready c.self.invariant.failed in
    let more = subst (λ j. HasAppended g.D.Disk.told j c.args.item c.append.new.self c.in-Ok-append.field-0) c.room_for.ensures.same c.in-Ok-append.ensures.more in
    let found = appended_found g.D.Disk.told c.self.inside.journal c.append.new.self c.room_for.new.journal.room c.self.inside.drawn c.self.inside.contents c.self.inside.changed
    c.args.item none c.in-Ok-append.field-0 c.requires.cells more in
    let last = ap last_of (c.standing.ensures.same ∙ ap (λ (f : Found). f.standing) found)
    ∙ last_appended c.self.inside.journal.found.standing (record { place = c.in-Ok-append.field-0; item = c.args.item }) in
    subst (λ s. HasWritten g.D.Disk.told s (seen c.append.new.self c.self.inside.drawn c.recall_last.new.self c.self.inside.changed) (Ok tt)
    (Some c.args.item) (λ written. told_by_record written c.args.item)) c.self.view_is
    (wrote g.D.Disk.told c.self.inside.journal c.append.new.self c.room_for.new.journal.room c.self.inside.drawn c.self.inside.contents c.self.inside.changed
    c.args.item none c.in-Ok-append.field-0 c.recall_last.new.self c.requires.cells more
    (last_told c.standing.result.now (record { place = c.in-Ok-append.field-0; item = c.args.item }) c.self.inside.contents c.recall_last.new.self last c.recall_last.ensures.told))

pub returns-in-Err-append-clause-writes : goal.returns-in-Err-append-clause-writes
returns-in-Err-append-clause-writes g c =
    let ready = subst (λ s. s.journal.failed ≡ false) (sym c.self.view_is) c.requires.ready in
    let none = doubts_nothing c.self.inside.journal.failed c.self.inside.journal.doubted ready c.self.invariant.failed in
    let can : CanStand c.self.inside.journal.found c.args.item = record { fits = c.requires.fits; follows = subst (λ s. IsTrue (can_follow s.journal.found c.args.item)) (sym c.self.view_is) c.requires.follows } in
    let why = subst (λ j. IsRefusedAppend g.D.Disk.told j c.args.item c.append.new.self c.in-Err-append.fault) c.room_for.ensures.same c.in-Err-append.ensures.refused in
    subst (λ f. HasWritten g.D.Disk.told c.args.self.now (seen c.append.new.self c.self.inside.drawn c.self.inside.contents c.self.inside.changed) (Err f)
    (Some c.args.item) (λ written. told_by_record written c.args.item)) (sym c.of_write.ensures)
    (subst (λ s. HasWritten g.D.Disk.told s (seen c.append.new.self c.self.inside.drawn c.self.inside.contents c.self.inside.changed) (Err (write_fault c.in-Err-append.fault))
    (Some c.args.item) (λ written. told_by_record written c.args.item)) c.self.view_is
    (refused g.D.Disk.told c.self.inside.journal c.append.new.self c.room_for.new.journal.room c.self.inside.drawn c.self.inside.contents c.self.inside.changed
    c.args.item none c.in-Err-append.fault can ready why))

pub returns-in-Err-clause-fault : goal.returns-in-Err-clause-fault
returns-in-Err-clause-fault g c =
    let ready = subst (λ s. s.journal.failed ≡ false) (sym c.self.view_is) c.requires.ready in
    inr (ap (λ j. j.failed) c.room_for.ensures.same ∙ ready)

pub returns-in-Err-append-clause-fault : goal.returns-in-Err-append-clause-fault
returns-in-Err-append-clause-fault g c =
    let ready = subst (λ s. s.journal.failed ≡ false) (sym c.self.view_is) c.requires.ready in
    let why = subst (λ j. IsRefusedAppend g.D.Disk.told j c.args.item c.append.new.self c.in-Err-append.fault) c.room_for.ensures.same c.in-Err-append.ensures.refused in
    let cause = subst (λ j. IsAppendFault g.D.Disk.wants_memory (g.D.Disk.told c.append.new.self.disk) (g.D.Disk.faults j.disk) (g.D.Disk.faults c.append.new.self.disk) c.in-Err-append.fault)
    c.room_for.ensures.same c.in-Err-append.ensures.fault in
    subst (IsCause g.D.Disk.wants_memory g.D.Disk.told g.D.Disk.faults c.args.self.now.journal c.append.new.self) (sym c.of_write.ensures)
    (subst (λ s. IsCause g.D.Disk.wants_memory g.D.Disk.told g.D.Disk.faults s.journal c.append.new.self (write_fault c.in-Err-append.fault)) c.self.view_is
    (append_cause g.D.Disk.wants_memory g.D.Disk.told g.D.Disk.faults c.self.inside.journal c.append.new.self c.room_for.new.journal.room c.args.item c.in-Err-append.fault ready why cause))
