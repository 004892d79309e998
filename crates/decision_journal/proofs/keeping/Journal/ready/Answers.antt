use Rattle.std.proofs.Common.{◌∙◌, ap, sym}
use Rattle.decision_journal.specs.State.{JournalState}
use Rattle.std.proofs.lemmas.Result.{on_ok_weaker}
use Rattle.decision_journal.proofs.Rereads.{rest_safe, rest_done}
use Rattle.decision_journal.proofs.Calls.{current_fine, reread_failed, reread_fine}
use Rattle.decision_journal.proofs.Asking.{ready_again, ready_at_once}
use Rattle.decision_journal.proofs.keeping.Journal.ready.Goals as goal

pub returns-clause-safe : goal.returns-clause-safe
returns-clause-safe g c = let fine = c.if-self.false in rw (← c.self.view_is) (rest_safe (g.D.Disk.told c.self.inside.disk) c.self.inside.area c.self.inside.service c.self.inside.octets.items c.self.inside.index.found c.self.inside.failed c.self.inside.doubted c.self.invariant.0 fine)

pub returns-clause-done : goal.returns-clause-done
returns-clause-done g c = rw (← c.self.view_is) (rest_done (g.D.Disk.told c.self.inside.disk) c.self.inside.area c.self.inside.service c.self.inside.octets.items c.self.inside.index.found c.self.inside.failed c.self.inside.doubted c.self.invariant.0 c.if-self.false)

pub returns-clause-disk : goal.returns-clause-disk
returns-clause-disk g c = rw (← c.self.view_is) (reread_fine c.self.inside.failed (g.D.Disk.told c.self.inside.disk) c.if-self.false)

pub returns-then-self-clause-disk : goal.returns-then-self-clause-disk
returns-then-self-clause-disk g c =
    let was = sym (ap (λ (j : JournalState g.row.D.Denot). j.failed) c.self.view_is) ∙ c.if-self.true in
    on_ok_weaker c.reopen.result (reread_failed c.args.self.now.failed (g.D.Disk.told c.args.self.now.disk) (g.D.Disk.told c.reopen.new.self.disk) was) c.reopen.ensures.disk

pub returns-clause-current : goal.returns-clause-current
returns-clause-current g c = rw (← c.self.view_is) (current_fine g.D.Disk.told _ c.self.invariant.0 c.if-self.false)

pub returns-clause-asked : goal.returns-clause-asked
returns-clause-asked g c = rw (← c.self.view_is) (ready_at_once g.D.Disk.asked g.D.Disk.told c.self.inside.failed c.self.inside.disk c.if-self.false)

pub returns-then-self-clause-asked : goal.returns-then-self-clause-asked
returns-then-self-clause-asked g c =
    let was = sym (ap (λ (j : JournalState g.row.D.Denot). j.failed) c.self.view_is) ∙ c.if-self.true in
    on_ok_weaker c.reopen.result (ready_again g.D.Disk.asked g.D.Disk.told c.args.self.now.failed c.args.self.now.disk c.reopen.new.self.disk was) c.reopen.ensures.asked
