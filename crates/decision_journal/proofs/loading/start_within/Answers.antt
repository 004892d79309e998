use Rattle.std.proofs.Common.{◌∙◌, ◌+◌, ◌<◌, ◌≤◌, ℕ, List, length, ap, sym, arith, refl}
use Rattle.decision_journal.specs.State.{used}
use Rattle.decision_journal.proofs.Few.{few}
use Rattle.ots_outside.specs.Disk.{Tells}
use Rattle.decision_journal.specs.Journal.{IsFilled}
use Rattle.decision_journal.specs.Loading.{IsStarted, last_life}
use Rattle.std.proofs.lemmas.Result.{err_from_is_err_and}
use Rattle.decision_journal.proofs.Starts.{at_same, spent_told, full_told}
use Rattle.decision_journal.proofs.Refused.{idle_begun, spent_unwritten, start_fault}
use Rattle.decision_journal.proofs.Asking.{start_left}
use Rattle.decision_journal.proofs.loading.start_within.Goals as goal

pub used_of-used-requires-clause-few : goal.used_of-used-requires-clause-few
used_of-used-requires-clause-few g c =
    omega (arith, few c.args.service c.in-Ok.value.octets.items c.in-Ok.value.index.found c.in-Ok.ensures.filled, ap length c.deref.ensures.value)

pub returns-then-life-clause-fault : goal.returns-then-life-clause-fault
returns-then-life-clause-fault g c =
    spent_told c.args.service c.in-Ok.value.octets.items c.in-Ok.value.index.found (g.D.Disk.told c.args.disk.now) (g.D.Disk.told c.read_or_create.new.disk) c.in-Ok.ensures.started (sym c.life.ensures ∙ c.if-life.true)

pub returns-then-area-used-clause-fault : goal.returns-then-area-used-clause-fault
returns-then-area-used-clause-fault g c =
    let same = c.used_of-used.ensures ∙ ap (λ (l : List ℕ). used l c.in-Ok.value.index.found) c.deref.ensures.value in
    (omega arith, refl, full_told c.args.service c.used_of-used.result c.in-Ok.value.octets.items c.in-Ok.value.index.found (g.D.Disk.told c.args.disk.now) (g.D.Disk.told c.read_or_create.new.disk) c.in-Ok.ensures.started (omega (arith, c.life.ensures, c.if-life.false)) same)

pub returns-then-life-clause-refused : goal.returns-then-life-clause-refused
returns-then-life-clause-refused g c =
    spent_unwritten c.args.service c.in-Ok.value.octets.items c.in-Ok.value.index.found (g.D.Disk.told c.args.disk.now) (g.D.Disk.told c.read_or_create.new.disk) c.in-Ok.ensures.started c.in-Ok.ensures.readied (sym c.life.ensures ∙ c.if-life.true)

pub returns-clause-filled : goal.returns-clause-filled
returns-clause-filled g c = at_same (IsFilled c.args.service) c.in-Ok.value.octets.items c.make_room.new.start.octets.items c.in-Ok.value.index.found c.make_room.new.start.index.found c.make_room.ensures.octets c.make_room.ensures.found c.in-Ok.ensures.filled

pub returns-clause-life : goal.returns-clause-life
returns-clause-life g c = at_same (λ l f. f.life < last_life) c.in-Ok.value.octets.items c.make_room.new.start.octets.items c.in-Ok.value.index.found c.make_room.new.start.index.found c.make_room.ensures.octets c.make_room.ensures.found (omega (arith, c.life.ensures, c.if-life.false))

pub returns-clause-room : goal.returns-clause-room
returns-clause-room g c =
    let same = c.used_of-used.ensures ∙ ap (λ (l : List ℕ). used l c.in-Ok.value.index.found) c.deref.ensures.value in
    at_same (λ l f. used l f + 10 ≤ c.args.area) c.in-Ok.value.octets.items c.make_room.new.start.octets.items c.in-Ok.value.index.found c.make_room.new.start.index.found c.make_room.ensures.octets c.make_room.ensures.found (omega (arith, same, c.if-area-used.false))

pub returns-clause-started : goal.returns-clause-started
returns-clause-started g c = at_same (λ l f. Tells (g.D.Disk.told c.args.disk.now) (g.D.Disk.told c.read_or_create.new.disk) (IsStarted c.args.service l f)) c.in-Ok.value.octets.items c.make_room.new.start.octets.items c.in-Ok.value.index.found c.make_room.new.start.index.found c.make_room.ensures.octets c.make_room.ensures.found c.in-Ok.ensures.started

pub returns-in_err-make_room-clause-refused : goal.returns-in_err-make_room-clause-refused
returns-in_err-make_room-clause-refused g c =
    let p = err_from_is_err_and c.from_residual.result c.from_residual.ensures.1 in
    rw (p.1, p.2) (idle_begun c.args.service c.in-Ok.value.octets.items c.in-Ok.value.index.found (g.D.Disk.told c.args.disk.now) (g.D.Disk.told c.read_or_create.new.disk) c.in-Ok.ensures.started c.in-Ok.ensures.readied)

pub returns-in-Err-clause-fault : goal.returns-in-Err-clause-fault
returns-in-Err-clause-fault g c =
    start_fault c.args.area c.args.service _ _ _ _ c.in-Err.ensures.fault

pub returns-in-Err-clause-refused : goal.returns-in-Err-clause-refused
returns-in-Err-clause-refused g c =
    c.in-Err.ensures.refused

pub returns-then-life-clause-begun : goal.returns-then-life-clause-begun
returns-then-life-clause-begun g c = start_left g.D.Disk.asked g.D.Disk.told c.args.service c.args.disk.now c.read_or_create.new.disk c.in-Ok.ensures.asked

pub returns-then-area-used-clause-begun : goal.returns-then-area-used-clause-begun
returns-then-area-used-clause-begun g c = start_left g.D.Disk.asked g.D.Disk.told c.args.service c.args.disk.now c.read_or_create.new.disk c.in-Ok.ensures.asked

pub returns-in_err-make_room-clause-begun : goal.returns-in_err-make_room-clause-begun
returns-in_err-make_room-clause-begun g c =
    let p = err_from_is_err_and c.from_residual.result c.from_residual.ensures.1 in
    rw (p.1) (start_left g.D.Disk.asked g.D.Disk.told c.args.service c.args.disk.now c.read_or_create.new.disk c.in-Ok.ensures.asked)

pub returns-in-Err-clause-begun : goal.returns-in-Err-clause-begun
returns-in-Err-clause-begun g c = c.in-Err.ensures.begun

pub returns-clause-asked : goal.returns-clause-asked
returns-clause-asked g c = c.in-Ok.ensures.asked
