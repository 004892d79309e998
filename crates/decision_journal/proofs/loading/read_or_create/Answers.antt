use Rattle.std.proofs.Common.{subst, sym, ℕ, List, inl}
use Rattle.decision_journal.specs.Journal.{IsFresh}
use Rattle.decision_journal.specs.Loading.{IsStartFault}
use Rattle.std.proofs.lemmas.Result.{IfOk-weaker, on_ok_weaker}
use Rattle.decision_journal.proofs.Starts.{told_unread, told_read, told_behind, told_started}
use Rattle.decision_journal.proofs.Joined.{if_err_weaker, refused_as}
use Rattle.decision_journal.proofs.Refused.{is_old, made_begun, made_readied, of_disk, read_readied, refused_begun, refused_scan, scan_start, unwritten_begun}
use Rattle.std.specs.Result.{is_ok}
use Rattle.ots_outside.specs.Asked.{IsAsked}
use Rattle.decision_journal.specs.Asking.{create_calls}
use Rattle.decision_journal.specs.Laws.{is_letter_due}
use Rattle.decision_journal.proofs.Loads.{fresh_test}
use Rattle.decision_journal.proofs.Refused.{old_test}
use Rattle.decision_journal.proofs.Asking.{made_asked, made_begun_asked, octets_synced, read_asked, read_left}
use Rattle.decision_journal.proofs.loading.read_or_create.Goals as goal

pub returns-in-Err-clause-safe : goal.returns-in-Err-clause-safe
returns-in-Err-clause-safe g c =
    told_unread c.args.service (g.D.Disk.told c.args.disk.now) (g.D.Disk.told c.read_whole.new.disk) c.read_whole.ensures.image c.read_whole.ensures.way

pub returns-then-is_fresh-clause-safe : goal.returns-then-is_fresh-clause-safe
returns-then-is_fresh-clause-safe g c =
    told_behind c.args.service (g.D.Disk.told c.args.disk.now) (g.D.Disk.told c.read_whole.new.disk) c.read_whole.ensures.image (g.D.Disk.told c.create.new.disk) c.in-Ok.ensures.settled c.create.ensures.safe

pub returns-then-is_fresh-clause-started : goal.returns-then-is_fresh-clause-started
returns-then-is_fresh-clause-started g c =
    IfOk-weaker c.create.result _ _ (λ start h. told_started c.args.service (g.D.Disk.told c.args.disk.now) (g.D.Disk.told c.read_whole.new.disk) c.read_whole.ensures.image start.octets.items start.index.found (g.D.Disk.told c.create.new.disk) c.in-Ok.ensures.settled h) c.create.ensures.started

pub returns-in-Err-filled-clause-safe : goal.returns-in-Err-filled-clause-safe
returns-in-Err-filled-clause-safe g c =
    told_read c.args.service (g.D.Disk.told c.args.disk.now) (g.D.Disk.told c.read_whole.new.disk) c.read_whole.ensures.image c.in-Ok.ensures.settled

pub returns-clause-safe : goal.returns-clause-safe
returns-clause-safe g c =
    told_read c.args.service (g.D.Disk.told c.args.disk.now) (g.D.Disk.told c.read_whole.new.disk) c.read_whole.ensures.image c.in-Ok.ensures.settled

pub returns-in-Err-clause-refused : goal.returns-in-Err-clause-refused
returns-in-Err-clause-refused g c =
    refused_begun c.args.service (g.D.Disk.told c.args.disk.now) (g.D.Disk.told c.read_whole.new.disk) (unwritten_begun c.args.service (g.D.Disk.told c.args.disk.now) (g.D.Disk.told c.read_whole.new.disk) c.read_whole.ensures.way) _ c.fault_of.ensures.kind

pub returns-then-is_fresh-clause-readied : goal.returns-then-is_fresh-clause-readied
returns-then-is_fresh-clause-readied g c =
    on_ok_weaker c.create.result (made_readied c.args.service (g.D.Disk.told c.args.disk.now) (g.D.Disk.told c.read_whole.new.disk) c.read_whole.ensures.image _ c.in-Ok.ensures.settled c.in-Ok.ensures.octets (g.D.Disk.told c.create.new.disk) (subst IsFresh c.deref.ensures.value (c.is_fresh.ensures.0 c.if-is_fresh.true))) c.create.ensures.made

pub returns-then-is_fresh-clause-refused : goal.returns-then-is_fresh-clause-refused
returns-then-is_fresh-clause-refused g c =
    if_err_weaker c.create.result _ _ (λ fault f. refused_begun c.args.service (g.D.Disk.told c.args.disk.now) (g.D.Disk.told c.create.new.disk)
    (made_begun c.args.service (g.D.Disk.told c.args.disk.now) (g.D.Disk.told c.read_whole.new.disk) c.read_whole.ensures.image _ c.in-Ok.ensures.settled c.in-Ok.ensures.octets (g.D.Disk.told c.create.new.disk) (subst IsFresh c.deref.ensures.value (c.is_fresh.ensures.0 c.if-is_fresh.true)) c.create.ensures.way) fault (of_disk _ _ _ fault f)) c.create.ensures.fault

pub returns-in-Err-filled-clause-refused : goal.returns-in-Err-filled-clause-refused
returns-in-Err-filled-clause-refused g c =
    refused_scan c.args.service (g.D.Disk.told c.args.disk.now) (g.D.Disk.told c.read_whole.new.disk) _ c.in-Ok.ensures.settled c.read_whole.ensures.way _ c.in-Err-filled.ensures.fault

pub returns-clause-readied : goal.returns-clause-readied
returns-clause-readied g c =
    read_readied c.args.service (g.D.Disk.told c.args.disk.now) (g.D.Disk.told c.read_whole.new.disk) c.read_whole.ensures.image _ c.in-Ok.ensures.settled c.in-Ok.ensures.octets (λ fresh. is_old _ _ c.is_fresh.ensures.1 c.if-is_fresh.false (subst IsFresh (sym c.deref.ensures.value) fresh))

pub returns-in-Err-clause-fault : goal.returns-in-Err-clause-fault
returns-in-Err-clause-fault g c =
    refused_as (IsStartFault c.args.service (g.D.Disk.told c.args.disk.now) (g.D.Disk.faults c.args.disk.now) (g.D.Disk.faults c.read_whole.new.disk)) c.in-Err.refusal c.fault_of.result c.fault_of.ensures.failed c.fault_of.ensures.memory c.in-Err.ensures.cause (λ e. tt)

pub returns-in-Err-filled-clause-fault : goal.returns-in-Err-filled-clause-fault
returns-in-Err-filled-clause-fault g c =
    scan_start c.args.service _ (g.D.Disk.told c.args.disk.now) (g.D.Disk.told c.read_whole.new.disk) _ _ c.in-Ok.ensures.settled c.in-Ok.ensures.octets (λ fresh. is_old _ _ c.is_fresh.ensures.1 c.if-is_fresh.false (subst IsFresh (sym c.deref.ensures.value) fresh)) _ c.in-Err-filled.ensures.fault

pub returns-in-Err-clause-begun : goal.returns-in-Err-clause-begun
returns-in-Err-clause-begun g c = inl c.in-Err.ensures.asked

pub returns-then-is_fresh-clause-asked : goal.returns-then-is_fresh-clause-asked
returns-then-is_fresh-clause-asked g c = made_asked g.D.Disk.asked g.D.Disk.told c.args.service c.in-Ok.octets.items c.args.disk.now c.read_whole.new.disk (octets_synced c.in-Ok.octets.items (g.D.Disk.told c.args.disk.now) (g.D.Disk.told c.read_whole.new.disk) c.in-Ok.ensures.settled c.in-Ok.ensures.octets) c.in-Ok.ensures.asked c.create.new.disk (fresh_test c.in-Ok.octets.items (subst IsFresh c.deref.ensures.value (c.is_fresh.ensures.0 c.if-is_fresh.true))) c.create.result (subst (λ (o : List ℕ). IsAsked g.D.Disk.asked (is_ok c.create.result) (create_calls c.args.service (is_letter_due o)) c.read_whole.new.disk c.create.new.disk) c.deref-then-is_fresh.ensures.value c.create.ensures.asked)

pub returns-then-is_fresh-clause-begun : goal.returns-then-is_fresh-clause-begun
returns-then-is_fresh-clause-begun g c = made_begun_asked g.D.Disk.asked g.D.Disk.told c.args.service c.in-Ok.octets.items c.args.disk.now c.read_whole.new.disk (octets_synced c.in-Ok.octets.items (g.D.Disk.told c.args.disk.now) (g.D.Disk.told c.read_whole.new.disk) c.in-Ok.ensures.settled c.in-Ok.ensures.octets) c.in-Ok.ensures.asked c.create.new.disk (fresh_test c.in-Ok.octets.items (subst IsFresh c.deref.ensures.value (c.is_fresh.ensures.0 c.if-is_fresh.true))) c.create.result (subst (λ (o : List ℕ). IsAsked g.D.Disk.asked (is_ok c.create.result) (create_calls c.args.service (is_letter_due o)) c.read_whole.new.disk c.create.new.disk) c.deref-then-is_fresh.ensures.value c.create.ensures.asked)

pub returns-in-Err-filled-clause-begun : goal.returns-in-Err-filled-clause-begun
returns-in-Err-filled-clause-begun g c = read_left g.D.Disk.asked g.D.Disk.told c.args.service c.in-Ok.octets.items c.args.disk.now c.read_whole.new.disk (octets_synced c.in-Ok.octets.items (g.D.Disk.told c.args.disk.now) (g.D.Disk.told c.read_whole.new.disk) c.in-Ok.ensures.settled c.in-Ok.ensures.octets) c.in-Ok.ensures.asked

pub returns-clause-asked : goal.returns-clause-asked
returns-clause-asked g c = read_asked g.D.Disk.asked g.D.Disk.told c.args.service c.in-Ok.octets.items c.args.disk.now c.read_whole.new.disk (octets_synced c.in-Ok.octets.items (g.D.Disk.told c.args.disk.now) (g.D.Disk.told c.read_whole.new.disk) c.in-Ok.ensures.settled c.in-Ok.ensures.octets) c.in-Ok.ensures.asked (old_test c.in-Ok.octets.items (λ fresh. is_old _ _ c.is_fresh.ensures.1 c.if-is_fresh.false (subst IsFresh (sym c.deref.ensures.value) fresh)))
