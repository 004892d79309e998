use Rattle.std.proofs.Common.{length}
use Rattle.std.proofs.lemmas.Result.{on_ok_weaker}
use Rattle.decision_journal.specs.State.{AppendIsDone, AppendIsSafe}
use Rattle.decision_journal.proofs.Joined.{append_fault, read_only, room_fault, safe_then, done_then, at_service, if_err_weaker}
use Rattle.decision_journal.proofs.Calls.{append_fault_then, appended_write, ready_of, refused_ready, refused_unready, refused_write}
use Rattle.decision_journal.specs.Asking.{record_calls}
use Rattle.decision_journal.specs.Laws.{behind_gate}
use Rattle.decision_journal.proofs.Asking.{append_asked, append_begun, begun_none, place_of, some_reread, some_then}
use Rattle.decision_journal.proofs.keeping.Journal.append.Goals as goal

pub returns-in-Err-clause-safe : goal.returns-in-Err-clause-safe
returns-in-Err-clause-safe g c =
    read_only c.args.self.now.service c.args.item (g.D.Disk.told c.args.self.now.disk) (g.D.Disk.told c.ready.new.self.disk) c.ready.ensures.safe

pub returns-in-Err-has_room-clause-safe : goal.returns-in-Err-has_room-clause-safe
returns-in-Err-has_room-clause-safe g c =
    read_only c.args.self.now.service c.args.item (g.D.Disk.told c.args.self.now.disk) (g.D.Disk.told c.ready.new.self.disk) c.ready.ensures.safe

pub returns-clause-safe : goal.returns-clause-safe
returns-clause-safe g c =
    safe_then c.args.self.now.service c.args.item (g.D.Disk.told c.args.self.now.disk) (g.D.Disk.told c.ready.new.self.disk) (g.D.Disk.told c.write.new.self.disk) c.ready.ensures.safe c.in-Ok.ensures.done (at_service (λ n. AppendIsSafe n c.args.item) _ _ _ _ c.in-Ok.ensures.read.service c.write.ensures.safe)

pub returns-clause-done : goal.returns-clause-done
returns-clause-done g c =
    on_ok_weaker c.write.result (λ done. done_then c.args.self.now.service c.args.item (g.D.Disk.told c.args.self.now.disk) (g.D.Disk.told c.ready.new.self.disk) (g.D.Disk.told c.write.new.self.disk) c.in-Ok.ensures.done (at_service (λ n. AppendIsDone n c.args.item) _ _ _ _ c.in-Ok.ensures.read.service done)) c.write.ensures.done

pub returns-clause-more : goal.returns-clause-more
returns-clause-more g c =
    appended_write g.D.Disk.told c.args.self.now c.ready.new.self c.in-Ok.ensures.read c.in-Ok.ensures.disk c.in-Ok.ensures.current c.args.item c.write.result c.write.new.self c.write.ensures.more c.write.ensures.disk c.in-Ok-has_room.ensures.room

pub returns-clause-fault : goal.returns-clause-fault
returns-clause-fault g c =
    if_err_weaker c.write.result _ _ (append_fault_then _ _ _ _ _ c.ready.ensures.later c.write.ensures.later) c.write.ensures.fault

pub returns-in-Err-clause-refused : goal.returns-in-Err-clause-refused
returns-in-Err-clause-refused g c =
    refused_unready g.D.Disk.told c.args.self.now c.ready.new.self c.in-Err.ensures.unread c.in-Err.ensures.unwritten c.in-Err.ensures.was c.args.item _ _ _ _ _ c.in-Err.ensures.fault

pub returns-in-Err-has_room-clause-refused : goal.returns-in-Err-has_room-clause-refused
returns-in-Err-has_room-clause-refused g c =
    refused_ready g.D.Disk.told c.args.self.now c.ready.new.self c.in-Ok.ensures.read c.in-Ok.ensures.disk c.in-Ok.ensures.current c.args.item _ c.in-Err-has_room.ensures.fault

pub returns-clause-refused : goal.returns-clause-refused
returns-clause-refused g c =
    refused_write g.D.Disk.told c.args.self.now c.ready.new.self c.in-Ok.ensures.read c.in-Ok.ensures.disk c.in-Ok.ensures.current c.args.item c.write.result c.write.new.self _ _ _ c.write.ensures.fault c.write.ensures.unsure c.write.ensures.way

pub returns-in-Err-clause-fault : goal.returns-in-Err-clause-fault
returns-in-Err-clause-fault g c =
    append_fault _ _ _ _ _ c.in-Err.ensures.fault

pub returns-in-Err-has_room-clause-fault : goal.returns-in-Err-has_room-clause-fault
returns-in-Err-has_room-clause-fault g c =
    room_fault c.ready.new.self.area c.ready.new.self.octets c.ready.new.self.found c.args.item _ _ _ _ _ c.in-Err-has_room.ensures.fault

pub returns-clause-asked : goal.returns-clause-asked
returns-clause-asked g c = append_asked g.D.Disk.asked g.D.Disk.told c.args.self.now.failed c.args.self.now.disk (behind_gate c.args.item) (length c.ready.new.self.octets) c.ready.new.self.disk c.write.new.self.disk c.in-Ok.ensures.asked c.write.result (place_of c.ready.new.self c.write.new.self c.args.item c.write.result c.write.ensures.more) c.write.ensures.asked

pub returns-clause-begun : goal.returns-clause-begun
returns-clause-begun g c =
    append_begun g.D.Disk.asked g.D.Disk.told c.args.self.now (record_calls c.args.item) c.ready.new.self c.write.new.self.disk
    (ready_of g.D.Disk.told c.args.self.now c.ready.new.self c.in-Ok.ensures.read c.in-Ok.ensures.disk c.in-Ok.ensures.current) c.in-Ok.ensures.asked c.write.result c.write.ensures.asked

pub returns-in-Err-clause-begun : goal.returns-in-Err-clause-begun
returns-in-Err-clause-begun g c =
    some_reread g.D.Disk.asked g.D.Disk.told c.args.self.now (record_calls c.args.item) c.ready.new.self.disk c.in-Err.ensures.was c.in-Err.ensures.begun

pub returns-in-Err-has_room-clause-begun : goal.returns-in-Err-has_room-clause-begun
returns-in-Err-has_room-clause-begun g c =
    some_then g.D.Disk.asked g.D.Disk.told c.args.self.now (record_calls c.args.item) c.ready.new.self c.ready.new.self.disk
    (ready_of g.D.Disk.told c.args.self.now c.ready.new.self c.in-Ok.ensures.read c.in-Ok.ensures.disk c.in-Ok.ensures.current) c.in-Ok.ensures.asked
    (begun_none g.D.Disk.asked (record_calls c.args.item c.ready.new.self) c.ready.new.self.disk)
