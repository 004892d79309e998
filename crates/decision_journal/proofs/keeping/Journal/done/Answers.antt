use Rattle.std.proofs.Common.{◌∙◌, ap, false, inl, inr, not, sym, true}
use Rattle.decision_journal.specs.declared.record.JournalRecord.TheVariants.{Done}
use Rattle.decision_journal.specs.State.{AppendIsDone, AppendIsSafe}
use Rattle.decision_journal.proofs.Joined.{read_only, safe_then, done_then, done_unwritten, done_written, at_service}
use Rattle.decision_journal.proofs.Calls.{done_fault_then, ready_of, refused_doubt, refused_unready}
use Rattle.decision_journal.specs.Asking.{done_calls}
use Rattle.decision_journal.proofs.Asking.{done_asked, done_unasked, some_reread, some_then}
use Rattle.decision_journal.proofs.keeping.Journal.done.Goals as goal

pub returns-in-Err-clause-safe : goal.returns-in-Err-clause-safe
returns-in-Err-clause-safe g c =
    read_only c.args.self.now.service (Done c.args.place) (g.D.Disk.told c.args.self.now.disk) (g.D.Disk.told c.ready.new.self.disk) c.ready.ensures.safe

pub returns-then-not-stands-clause-safe : goal.returns-then-not-stands-clause-safe
returns-then-not-stands-clause-safe g c =
    read_only c.args.self.now.service (Done c.args.place) (g.D.Disk.told c.args.self.now.disk) (g.D.Disk.told c.ready.new.self.disk) c.ready.ensures.safe

pub returns-in-Err-write-clause-safe : goal.returns-in-Err-write-clause-safe
returns-in-Err-write-clause-safe g c =
    safe_then c.args.self.now.service (Done c.args.place) (g.D.Disk.told c.args.self.now.disk) (g.D.Disk.told c.ready.new.self.disk) (g.D.Disk.told c.write.new.self.disk) c.ready.ensures.safe c.in-Ok.ensures.done (at_service (λ n. AppendIsSafe n (Done c.args.place)) _ _ _ _ c.in-Ok.ensures.read.service c.write.ensures.safe)

pub returns-clause-safe : goal.returns-clause-safe
returns-clause-safe g c =
    safe_then c.args.self.now.service (Done c.args.place) (g.D.Disk.told c.args.self.now.disk) (g.D.Disk.told c.ready.new.self.disk) (g.D.Disk.told c.write.new.self.disk) c.ready.ensures.safe c.in-Ok.ensures.done (at_service (λ n. AppendIsSafe n (Done c.args.place)) _ _ _ _ c.in-Ok.ensures.read.service c.write.ensures.safe)

pub returns-clause-done : goal.returns-clause-done
returns-clause-done g c =
    done_written c.args.self.now.service c.args.place _ _ (done_then c.args.self.now.service (Done c.args.place) (g.D.Disk.told c.args.self.now.disk) (g.D.Disk.told c.ready.new.self.disk) (g.D.Disk.told c.write.new.self.disk) c.in-Ok.ensures.done (at_service (λ n. AppendIsDone n (Done c.args.place)) _ _ _ _ c.in-Ok.ensures.read.service c.in-Ok-write.ensures.done))

pub returns-in-Err-write-clause-fault : goal.returns-in-Err-write-clause-fault
returns-in-Err-write-clause-fault g c = done_fault_then _ _ _ _ _ c.ready.ensures.later c.write.ensures.later _ c.in-Err-write.ensures.fault

pub returns-clause-after : goal.returns-clause-after
returns-clause-after g c =
    inl (record {
      ready = c.ready.new.self;
      is_ready = ready_of g.D.Disk.told c.args.self.now c.ready.new.self c.in-Ok.ensures.read c.in-Ok.ensures.disk c.in-Ok.ensures.current;
      at = c.in-Ok-write.value;
      appended = record { journal = c.in-Ok-write.ensures.more; disk = c.in-Ok-write.ensures.disk };
      stood = sym c.stands.ensures.stands ∙ c.if-not-stands.false;
    })

pub returns-then-not-stands-clause-after : goal.returns-then-not-stands-clause-after
returns-then-not-stands-clause-after g c =
    inr (record {
      ready = ready_of g.D.Disk.told c.args.self.now c.ready.new.self c.in-Ok.ensures.read c.in-Ok.ensures.disk c.in-Ok.ensures.current;
      none = ap not (sym c.stands.ensures.stands ∙ c.if-not-stands.true);
    })

pub returns-in-Err-clause-refused : goal.returns-in-Err-clause-refused
returns-in-Err-clause-refused g c =
    refused_unready g.D.Disk.told c.args.self.now c.ready.new.self c.in-Err.ensures.unread c.in-Err.ensures.unwritten c.in-Err.ensures.was (Done c.args.place) _ _ _ _ _ c.in-Err.ensures.fault

pub returns-in-Err-write-clause-refused : goal.returns-in-Err-write-clause-refused
returns-in-Err-write-clause-refused g c =
    refused_doubt g.D.Disk.told c.args.self.now c.ready.new.self c.in-Ok.ensures.read c.in-Ok.ensures.disk c.in-Ok.ensures.current (Done c.args.place) c.write.new.self c.in-Err-write.ensures.unsure c.in-Err-write.ensures.way _ _ _ _ c.in-Err-write.ensures.fault

pub returns-then-not-stands-clause-done : goal.returns-then-not-stands-clause-done
returns-then-not-stands-clause-done g c =
    done_unwritten c.args.self.now.service c.args.place _ _ c.ready.ensures.safe c.in-Ok.ensures.done

pub returns-clause-asked : goal.returns-clause-asked
returns-clause-asked g c = (
  c.ready.new.self,
  ready_of g.D.Disk.told c.args.self.now c.ready.new.self c.in-Ok.ensures.read c.in-Ok.ensures.disk c.in-Ok.ensures.current,
  c.in-Ok.ensures.asked,
  done_asked g.D.Disk.asked true c.args.place c.ready.new.self c.write.new.self.disk (sym c.stands.ensures.stands ∙ c.if-not-stands.false) c.in-Ok-write.ensures.asked,
)

pub returns-then-not-stands-clause-asked : goal.returns-then-not-stands-clause-asked
returns-then-not-stands-clause-asked g c = (
  c.ready.new.self,
  ready_of g.D.Disk.told c.args.self.now c.ready.new.self c.in-Ok.ensures.read c.in-Ok.ensures.disk c.in-Ok.ensures.current,
  c.in-Ok.ensures.asked,
  done_unasked g.D.Disk.asked c.args.place c.ready.new.self (sym c.stands.ensures.stands ∙ c.if-not-stands.true),
)

pub returns-in-Err-clause-begun : goal.returns-in-Err-clause-begun
returns-in-Err-clause-begun g c =
    some_reread g.D.Disk.asked g.D.Disk.told c.args.self.now (done_calls c.args.place) c.ready.new.self.disk c.in-Err.ensures.was c.in-Err.ensures.begun

pub returns-in-Err-write-clause-begun : goal.returns-in-Err-write-clause-begun
returns-in-Err-write-clause-begun g c =
    some_then g.D.Disk.asked g.D.Disk.told c.args.self.now (done_calls c.args.place) c.ready.new.self c.write.new.self.disk
    (ready_of g.D.Disk.told c.args.self.now c.ready.new.self c.in-Ok.ensures.read c.in-Ok.ensures.disk c.in-Ok.ensures.current) c.in-Ok.ensures.asked
    (done_asked g.D.Disk.asked false c.args.place c.ready.new.self c.write.new.self.disk (sym c.stands.ensures.stands ∙ c.if-not-stands.false) c.in-Err-write.ensures.asked)
