use Rattle.std.proofs.Common.{◌∙◌, false, None, ap, length, sym, subst, refl, ◌⊎◌, inl}
use Rattle.ots_outside.specs.Disk.{Tells}
use Rattle.decision_journal.specs.Loading.{IsLoadFault, IsRefusedLoad, LoadIsSafe}
use Rattle.decision_journal.proofs.Calls.{fine_then}
use Rattle.decision_journal.proofs.Joined.{known_now}
use Rattle.decision_journal.proofs.Starts.{load_done, load_safe}
use Rattle.decision_journal.proofs.Refused.{life_fault, life_refused}
use Rattle.decision_journal.specs.Asking.{AsksLoad, AsksLoadSome, AsksStartSome}
use Rattle.decision_journal.proofs.Asking.{for_told, load_asked, load_begun, start_records}
use Rattle.decision_journal.proofs.keeping.Journal.load.Goals as goal

pub returns-in-Ok-append-clause-done : goal.returns-in-Ok-append-clause-done
returns-in-Ok-append-clause-done g c =
    let m = c.in-Ok-append.ensures.more in
    let same = known_now m.ready.octets c.in-Ok.start.octets.items m.ready.found c.in-Ok.start.index.found None refl m.is_ready.journal.known in
    let disk = fine_then false refl (g.D.Disk.told c.start_within.new.disk) (g.D.Disk.told m.ready.disk) (g.D.Disk.told c.append.new.self.disk) _ m.is_ready.disk m.appended.disk in
    load_done c.args.service c.in-Ok.start.octets.items c.in-Ok.start.index.found c.next_life.result c.next_life.ensures _ (m.appended.journal.place_is ∙ ap length same.0) (g.D.Disk.told c.args.disk) (g.D.Disk.told c.start_within.new.disk) (g.D.Disk.told c.append.new.self.disk) c.in-Ok.ensures.started c.in-Ok.ensures.readied disk c.in-Ok-append.ensures.done

pub returns-in-Err-append-clause-refused : goal.returns-in-Err-append-clause-refused
returns-in-Err-append-clause-refused g c =
    subst (λ d. Tells (g.D.Disk.told c.args.disk) (g.D.Disk.told d) (IsRefusedLoad c.args.service c.in-Err-append.fault)) (sym c.into_disk.ensures) (life_refused g.D.Disk.told _ c.append.new.self c.args.area c.args.service c.next_life.result c.next_life.ensures refl refl c.in-Ok.ensures.room (g.D.Disk.told c.args.disk) c.in-Ok.ensures.started c.in-Ok.ensures.readied _ c.in-Err-append.ensures.refused)

pub returns-in-Err-append-clause-fault : goal.returns-in-Err-append-clause-fault
returns-in-Err-append-clause-fault g c =
    subst (λ d. IsLoadFault c.args.area c.args.service (g.D.Disk.told c.args.disk) (g.D.Disk.faults c.args.disk) (g.D.Disk.faults d) c.in-Err-append.fault) (sym c.into_disk.ensures) (life_fault g.D.Disk.told _ c.append.new.self c.args.area c.args.service c.next_life.result c.next_life.ensures refl refl c.in-Ok.ensures.room _ _ _ _ _ c.start_within.ensures.later c.append.ensures.later _ c.in-Err-append.ensures.refused c.in-Err-append.ensures.fault)

pub returns-in-Ok-append-clause-safe_ok : goal.returns-in-Ok-append-clause-safe_ok
returns-in-Ok-append-clause-safe_ok g c =
    load_safe c.args.service c.in-Ok.start.octets.items c.in-Ok.start.index.found c.next_life.result c.next_life.ensures (g.D.Disk.told c.args.disk) (g.D.Disk.told c.start_within.new.disk) (g.D.Disk.told c.append.new.self.disk) c.in-Ok.ensures.started c.start_within.ensures.safe c.append.ensures.safe

pub returns-in-Err-append-clause-safe_err : goal.returns-in-Err-append-clause-safe_err
returns-in-Err-append-clause-safe_err g c =
    subst (λ d. Tells (g.D.Disk.told c.args.disk) (g.D.Disk.told d) (LoadIsSafe c.args.service)) (sym c.into_disk.ensures) (load_safe c.args.service c.in-Ok.start.octets.items c.in-Ok.start.index.found c.next_life.result c.next_life.ensures (g.D.Disk.told c.args.disk) (g.D.Disk.told c.start_within.new.disk) (g.D.Disk.told c.append.new.self.disk) c.in-Ok.ensures.started c.start_within.ensures.safe c.append.ensures.safe)

pub returns-in-Ok-append-clause-asked : goal.returns-in-Ok-append-clause-asked
returns-in-Ok-append-clause-asked g c =
    let m = c.in-Ok-append.ensures.more in
    let same = known_now m.ready.octets c.in-Ok.start.octets.items m.ready.found c.in-Ok.start.index.found None refl m.is_ready.journal.known in
    let s = start_records c.args.service c.in-Ok.start.octets.items c.in-Ok.start.index.found (g.D.Disk.told c.args.disk) (g.D.Disk.told c.start_within.new.disk) c.in-Ok.ensures.filled c.in-Ok.ensures.started in
    load_asked g.D.Disk.asked g.D.Disk.told c.args.service c.in-Ok.start.octets.items c.in-Ok.start.index.found c.args.disk c.start_within.new.disk c.append.new.self.disk c.in-Ok.ensures.asked
    s.0 s.1 s.2 c.next_life.result c.next_life.ensures _ (m.appended.journal.place_is ∙ ap length same.0) c.in-Ok-append.ensures.asked

pub returns-in-Err-clause-begun : goal.returns-in-Err-clause-begun
returns-in-Err-clause-begun g c =
    for_told (g.D.Disk.told c.args.disk) (AsksStartSome g.D.Disk.asked g.D.Disk.told c.args.service c.args.disk c.start_within.new.disk ⊎ AsksLoad g.D.Disk.asked g.D.Disk.told c.args.service false c.args.disk c.start_within.new.disk) (inl c.in-Err.ensures.begun)

pub returns-in-Err-append-clause-begun : goal.returns-in-Err-append-clause-begun
returns-in-Err-append-clause-begun g c =
    let s = start_records c.args.service c.in-Ok.start.octets.items c.in-Ok.start.index.found (g.D.Disk.told c.args.disk) (g.D.Disk.told c.start_within.new.disk) c.in-Ok.ensures.filled c.in-Ok.ensures.started in
    subst (λ d. AsksLoadSome g.D.Disk.asked g.D.Disk.told c.args.service c.args.disk d) (sym c.into_disk.ensures)
    (load_begun g.D.Disk.asked g.D.Disk.told c.args.service c.in-Ok.start.octets.items c.in-Ok.start.index.found c.args.disk c.start_within.new.disk c.append.new.self.disk c.in-Ok.ensures.asked
    s.0 s.1 s.2 c.next_life.result c.next_life.ensures c.args.area 0 _ c.start_within.ensures.safe c.in-Err-append.ensures.begun)
