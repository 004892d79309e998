use Rattle.std.proofs.Common.{◌≡◌, ◌∙◌, ℕ, List, false, true, ap, sym, subst, arith, length, refl}
use Rattle.std.specs.Prelude.{vec_capacity, vec_len}
use Rattle.decision_journal.specs.Asking.{AsksReread}
use Rattle.decision_journal.specs.Calls.{IsUnwritten}
use Rattle.decision_journal.specs.Index.{AreBefore}
use Rattle.decision_journal.specs.Room.{Stock}
use Rattle.decision_journal.specs.State.{IsReadFault, IsSound, ReadIsSafe}
use Rattle.decision_journal.proofs.Asking.{for_told, none_begun}
use Rattle.decision_journal.proofs.Below.{before_end}
use Rattle.decision_journal.proofs.Kept.{within_now}
use Rattle.decision_journal.proofs.Rereads.{doubted_fits, found_sound, front_of, known_small, may_found, misread_fault, misread_sound, none_told, other_none, read_done, read_safe, read_unread, sound_same, whole_of}
use Rattle.decision_journal.proofs.Roomy.{roomy_more}
use Rattle.decision_journal.proofs.Joined.{refused_as}
use Rattle.decision_journal.proofs.Calls.{current_of}
use Rattle.decision_journal.proofs.keeping.Journal.reopen.Goals as goal

pub put_doubted-requires-clause-room : goal.put_doubted-requires-clause-room
put_doubted-requires-clause-room g c = omega (arith, doubted_fits (g.D.Disk.told c.self.inside.disk) c.self.inside.area c.self.inside.service c.self.inside.octets.items c.self.inside.index.found c.self.inside.failed c.self.inside.doubted c.self.invariant.0, c.self.invariant.1.octets)

pub find-requires-clause-small : goal.find-requires-clause-small
find-requires-clause-small g c = let gate : c.len-gate.result ≡ length c.self.inside.octets.items = omega (arith, c.len-gate.ensures) in omega (arith, gate, known_small (g.D.Disk.told c.self.inside.disk) c.self.inside.area c.self.inside.service c.self.inside.octets.items c.self.inside.index.found c.self.inside.failed c.self.inside.doubted c.self.invariant.0)

pub find-requires-clause-whole : goal.find-requires-clause-whole
find-requires-clause-whole g c = let gate : c.len-gate.result ≡ length c.self.inside.octets.items = omega (arith, c.len-gate.ensures) in whole_of c.self.inside.octets.items _ c.put_doubted.new.octets.items c.len-gate.result c.put_doubted.ensures.octets gate

pub find-requires-clause-gate : goal.find-requires-clause-gate
find-requires-clause-gate g c = let gate : c.len-gate.result ≡ length c.self.inside.octets.items = omega (arith, c.len-gate.ensures) in ap length (front_of c.self.inside.octets.items _ c.put_doubted.new.octets.items c.len-gate.result c.put_doubted.ensures.octets gate) ∙ sym gate

pub find-requires-clause-behind : goal.find-requires-clause-behind
find-requires-clause-behind g c =
    let now = within_now (g.D.Disk.told c.self.inside.disk) c.self.inside.area c.self.inside.service c.self.inside.octets.items c.self.inside.index.found c.self.inside.failed c.self.inside.doubted c.self.invariant.0 in
    let gate : c.len-gate.result ≡ length c.self.inside.octets.items = omega (arith, c.len-gate.ensures) in
    subst (λ (n : ℕ). AreBefore n c.self.inside.index.found.standing) (sym gate) (before_end c.self.inside.service c.self.inside.octets.items c.self.inside.index.found now.filled)

pub find-requires-clause-room : goal.find-requires-clause-room
find-requires-clause-room g c = omega (arith, c.self.invariant.1.spare)

pub returns-in-Err-clause-safe : goal.returns-in-Err-clause-safe
returns-in-Err-clause-safe g c = rw (← c.self.view_is) (read_safe (g.D.Disk.told c.self.inside.disk) c.self.inside.area c.self.inside.service c.self.inside.octets.items c.self.inside.index.found c.self.inside.failed c.self.inside.doubted c.self.invariant.0 (g.D.Disk.told c.read_along.new.disk) c.read_along.ensures.image c.read_along.ensures.way)

pub returns-clause-safe : goal.returns-clause-safe
returns-clause-safe g c = rw (← c.self.view_is) (read_safe (g.D.Disk.told c.self.inside.disk) c.self.inside.area c.self.inside.service c.self.inside.octets.items c.self.inside.index.found c.self.inside.failed c.self.inside.doubted c.self.invariant.0 (g.D.Disk.told c.read_along.new.disk) c.read_along.ensures.image c.read_along.ensures.way)

pub returns-clause-done : goal.returns-clause-done
returns-clause-done g c = rw (← c.self.view_is) (read_done (g.D.Disk.told c.self.inside.disk) c.self.inside.area c.self.inside.service c.self.inside.octets.items c.self.inside.index.found c.self.inside.failed c.self.inside.doubted c.self.invariant.0 (g.D.Disk.told c.read_along.new.disk) c.read_along.ensures.image c.in-Ok.ensures.settled)

pub returns-in-Err-clause-unwritten : goal.returns-in-Err-clause-unwritten
returns-in-Err-clause-unwritten g c = rw (← c.self.view_is) c.read_along.ensures.way

pub returns-clause-disk : goal.returns-clause-disk
returns-clause-disk g c = rw (← c.self.view_is) c.in-Ok.ensures.settled

pub returns-clause-read : goal.returns-clause-read
returns-clause-read g c =
    let gate : c.len-gate.result ≡ length c.self.inside.octets.items = omega (arith, c.len-gate.ensures) in
    rw (← c.self.view_is) (record {
      area = refl;
      service = refl;
      known = may_found (g.D.Disk.told c.self.inside.disk) c.self.inside.area c.self.inside.service c.self.inside.octets.items c.self.inside.index.found c.self.inside.failed c.self.inside.doubted c.self.invariant.0 (g.D.Disk.told c.read_along.new.disk) c.read_along.ensures.image c.in-Ok.ensures.settled c.put_doubted.new.octets.items c.deref.result.now c.len-gate.result c.deref.ensures.value c.put_doubted.ensures.octets gate c.in-Ok.along.same c.in-Ok.along.closed c.in-Ok.ensures.along c.find.new.octets.items c.find.new.index.found (c.find.ensures.known c.if-not-find.false);
      failed = refl;
      doubted = c.find.ensures.none c.if-not-find.false;
    })

pub returns-clause-current : goal.returns-clause-current
returns-clause-current g c =
    let gate : c.len-gate.result ≡ length c.self.inside.octets.items = omega (arith, c.len-gate.ensures) in
    current_of g.D.Disk.told _ (found_sound (g.D.Disk.told c.self.inside.disk) c.self.inside.area c.self.inside.service c.self.inside.octets.items c.self.inside.index.found c.self.inside.failed c.self.inside.doubted c.self.invariant.0 (g.D.Disk.told c.read_along.new.disk) c.read_along.ensures.image c.in-Ok.ensures.settled c.put_doubted.new.octets.items c.deref.result.now c.len-gate.result c.deref.ensures.value c.put_doubted.ensures.octets gate c.in-Ok.along.same c.in-Ok.along.closed c.in-Ok.ensures.along c.find.new.octets.items c.find.new.index.found c.find.new.doubted (c.find.ensures.known c.if-not-find.false) (c.find.ensures.front c.if-not-find.false) (c.find.ensures.ends c.if-not-find.false) (c.find.ensures.none c.if-not-find.false))

pub invariant_of-self : goal.invariant_of-self
invariant_of-self g c =
    let gate : c.len-gate.result ≡ length c.self.inside.octets.items = omega (arith, c.len-gate.ensures) in
    let front = c.truncate.ensures.items ∙ front_of c.self.inside.octets.items _ c.put_doubted.new.octets.items c.len-gate.result c.put_doubted.ensures.octets gate in (
      subst (λ (l : List ℕ). IsSound (g.D.Disk.told c.read_along.new.disk) c.self.inside.area c.self.inside.service l c.self.inside.index.found true c.self.inside.doubted) (sym front) (read_unread (g.D.Disk.told c.self.inside.disk) c.self.inside.area c.self.inside.service c.self.inside.octets.items c.self.inside.index.found c.self.inside.failed c.self.inside.doubted c.self.invariant.0 (g.D.Disk.told c.read_along.new.disk) c.read_along.ensures.image c.read_along.ensures.way),
      roomy_more c.self.inside.area (vec_capacity c.self.inside.octets) (vec_len c.self.inside.piece) c.self.inside.index c.self.inside.doubted c.self.inside.room _ _ (omega (arith, c.put_doubted.ensures.room, c.truncate.ensures.capacity)) c.self.invariant.1.pieces c.self.invariant.1,
    )

pub invariant_of-self-2 : goal.invariant_of-self-2
invariant_of-self-2 g c =
    let gate : c.len-gate.result ≡ length c.self.inside.octets.items = omega (arith, c.len-gate.ensures) in (
      found_sound (g.D.Disk.told c.self.inside.disk) c.self.inside.area c.self.inside.service c.self.inside.octets.items c.self.inside.index.found c.self.inside.failed c.self.inside.doubted c.self.invariant.0 (g.D.Disk.told c.read_along.new.disk) c.read_along.ensures.image c.in-Ok.ensures.settled c.put_doubted.new.octets.items c.deref.result.now c.len-gate.result c.deref.ensures.value c.put_doubted.ensures.octets gate c.in-Ok.along.same c.in-Ok.along.closed c.in-Ok.ensures.along c.find.new.octets.items c.find.new.index.found c.find.new.doubted (c.find.ensures.known c.if-not-find.false) (c.find.ensures.front c.if-not-find.false) (c.find.ensures.ends c.if-not-find.false) (c.find.ensures.none c.if-not-find.false),
      c.find.ensures.roomy c.self.inside.area _ c.self.inside.room (roomy_more c.self.inside.area (vec_capacity c.self.inside.octets) (vec_len c.self.inside.piece) c.self.inside.index c.self.inside.doubted c.self.inside.room _ _ c.put_doubted.ensures.room c.self.invariant.1.pieces c.self.invariant.1),
    )

pub misread-requires-clause-none : goal.misread-requires-clause-none
misread-requires-clause-none g c =
    let gate : c.len-gate.result ≡ length c.self.inside.octets.items = omega (arith, c.len-gate.ensures) in
    other_none (g.D.Disk.told c.self.inside.disk) c.self.inside.area c.self.inside.service c.self.inside.octets.items c.self.inside.index.found c.self.inside.failed c.self.inside.doubted c.self.invariant.0 (g.D.Disk.told c.read_along.new.disk) c.read_along.ensures.image c.in-Ok.ensures.settled c.put_doubted.new.octets.items c.deref.result.now c.len-gate.result c.deref.ensures.value c.put_doubted.ensures.octets gate c.in-Ok.along.same c.in-Ok.along.closed c.in-Ok.ensures.along (c.find.ensures.other c.if-not-find.true)

pub invariant_of-self-then-not-find : goal.invariant_of-self-then-not-find
invariant_of-self-then-not-find g c =
    let gate : c.len-gate.result ≡ length c.self.inside.octets.items = omega (arith, c.len-gate.ensures) in
    let none = other_none (g.D.Disk.told c.self.inside.disk) c.self.inside.area c.self.inside.service c.self.inside.octets.items c.self.inside.index.found c.self.inside.failed c.self.inside.doubted c.self.invariant.0 (g.D.Disk.told c.read_along.new.disk) c.read_along.ensures.image c.in-Ok.ensures.settled c.put_doubted.new.octets.items c.deref.result.now c.len-gate.result c.deref.ensures.value c.put_doubted.ensures.octets gate c.in-Ok.along.same c.in-Ok.along.closed c.in-Ok.ensures.along (c.find.ensures.other c.if-not-find.true) in
    let same = c.find.ensures.same c.if-not-find.true in
    let unread = read_unread (g.D.Disk.told c.self.inside.disk) c.self.inside.area c.self.inside.service c.self.inside.octets.items c.self.inside.index.found c.self.inside.failed c.self.inside.doubted c.self.invariant.0 (g.D.Disk.told c.read_along.new.disk) c.read_along.ensures.image c.read_along.ensures.way in (
      subst (λ (l : List ℕ). IsSound (g.D.Disk.told c.misread.new.disk) c.self.inside.area c.self.inside.service l c.find.new.index.found true c.find.new.doubted) (sym (same.0 ∙ front_of c.self.inside.octets.items _ c.put_doubted.new.octets.items c.len-gate.result c.put_doubted.ensures.octets gate))
          (sound_same _ _ _ _ _ _ _ _ (ap (λ (s : Stock). s.found) same.1) same.2 (misread_sound (g.D.Disk.told c.read_along.new.disk) (g.D.Disk.told c.misread.new.disk) _ _ _ _ _ none c.misread.ensures.none unread)),
      c.find.ensures.roomy c.self.inside.area _ c.self.inside.room (roomy_more c.self.inside.area (vec_capacity c.self.inside.octets) (vec_len c.self.inside.piece) c.self.inside.index c.self.inside.doubted c.self.inside.room _ _ c.put_doubted.ensures.room c.self.invariant.1.pieces c.self.invariant.1),
    )

pub returns-then-not-find-clause-unwritten : goal.returns-then-not-find-clause-unwritten
returns-then-not-find-clause-unwritten g c =
    let gate : c.len-gate.result ≡ length c.self.inside.octets.items = omega (arith, c.len-gate.ensures) in
    rw (← c.self.view_is) (none_told (g.D.Disk.told c.self.inside.disk) (g.D.Disk.told c.read_along.new.disk) (g.D.Disk.told c.misread.new.disk) _ IsUnwritten c.read_along.ensures.way (other_none (g.D.Disk.told c.self.inside.disk) c.self.inside.area c.self.inside.service c.self.inside.octets.items c.self.inside.index.found c.self.inside.failed c.self.inside.doubted c.self.invariant.0 (g.D.Disk.told c.read_along.new.disk) c.read_along.ensures.image c.in-Ok.ensures.settled c.put_doubted.new.octets.items c.deref.result.now c.len-gate.result c.deref.ensures.value c.put_doubted.ensures.octets gate c.in-Ok.along.same c.in-Ok.along.closed c.in-Ok.ensures.along (c.find.ensures.other c.if-not-find.true)) c.misread.ensures.none)

pub returns-then-not-find-clause-safe : goal.returns-then-not-find-clause-safe
returns-then-not-find-clause-safe g c =
    let gate : c.len-gate.result ≡ length c.self.inside.octets.items = omega (arith, c.len-gate.ensures) in
    rw (← c.self.view_is) (none_told (g.D.Disk.told c.self.inside.disk) (g.D.Disk.told c.read_along.new.disk) (g.D.Disk.told c.misread.new.disk) _ (ReadIsSafe c.self.inside.service) c.read_along.ensures.way (other_none (g.D.Disk.told c.self.inside.disk) c.self.inside.area c.self.inside.service c.self.inside.octets.items c.self.inside.index.found c.self.inside.failed c.self.inside.doubted c.self.invariant.0 (g.D.Disk.told c.read_along.new.disk) c.read_along.ensures.image c.in-Ok.ensures.settled c.put_doubted.new.octets.items c.deref.result.now c.len-gate.result c.deref.ensures.value c.put_doubted.ensures.octets gate c.in-Ok.along.same c.in-Ok.along.closed c.in-Ok.ensures.along (c.find.ensures.other c.if-not-find.true)) c.misread.ensures.none)

pub returns-then-not-find-clause-fault : goal.returns-then-not-find-clause-fault
returns-then-not-find-clause-fault g c =
    rw (← c.self.view_is) (misread_fault g.D.Disk.wants_memory _ _ _ _ c.read_along.ensures.later c.misread.ensures.none c.misread.ensures.later _ c.misread.ensures.fault)

pub returns-in-Err-clause-fault : goal.returns-in-Err-clause-fault
returns-in-Err-clause-fault g c =
    rw (← c.self.view_is) (refused_as (IsReadFault g.D.Disk.wants_memory (g.D.Disk.told c.read_along.new.disk) (g.D.Disk.faults c.self.inside.disk) (g.D.Disk.faults c.read_along.new.disk)) c.in-Err.refusal c.fault_of.result c.fault_of.ensures.failed c.fault_of.ensures.memory c.in-Err.ensures.cause c.in-Err.ensures.want)

pub returns-in-Err-clause-unread : goal.returns-in-Err-clause-unread
returns-in-Err-clause-unread g c =
    let gate : c.len-gate.result ≡ length c.self.inside.octets.items = omega (arith, c.len-gate.ensures) in
    let front = c.truncate.ensures.items ∙ front_of c.self.inside.octets.items _ c.put_doubted.new.octets.items c.len-gate.result c.put_doubted.ensures.octets gate in
    rw (← c.self.view_is) (record { area = refl; service = refl; octets = front; found = refl; doubted = refl; failed = refl })

pub returns-then-not-find-clause-unread : goal.returns-then-not-find-clause-unread
returns-then-not-find-clause-unread g c =
    let gate : c.len-gate.result ≡ length c.self.inside.octets.items = omega (arith, c.len-gate.ensures) in
    let same = c.find.ensures.same c.if-not-find.true in
    let front = same.0 ∙ front_of c.self.inside.octets.items _ c.put_doubted.new.octets.items c.len-gate.result c.put_doubted.ensures.octets gate in
    rw (← c.self.view_is) (record { area = refl; service = refl; octets = front; found = ap (λ (s : Stock). s.found) same.1; doubted = same.2; failed = refl })

pub returns-in-Err-clause-begun : goal.returns-in-Err-clause-begun
returns-in-Err-clause-begun g c = rw (← c.self.view_is) (for_told (g.D.Disk.told c.self.inside.disk) (AsksReread g.D.Disk.asked g.D.Disk.told false c.self.inside.disk c.read_along.new.disk) c.in-Err.ensures.asked)

pub returns-clause-asked : goal.returns-clause-asked
returns-clause-asked g c = rw (← c.self.view_is) c.in-Ok.ensures.asked

pub returns-then-not-find-clause-begun : goal.returns-then-not-find-clause-begun
returns-then-not-find-clause-begun g c =
    let gate : c.len-gate.result ≡ length c.self.inside.octets.items = omega (arith, c.len-gate.ensures) in
    rw (← c.self.view_is) (none_begun (g.D.Disk.told c.self.inside.disk) (g.D.Disk.told c.read_along.new.disk) _ (AsksReread g.D.Disk.asked g.D.Disk.told false c.self.inside.disk c.misread.new.disk) c.read_along.ensures.way (other_none (g.D.Disk.told c.self.inside.disk) c.self.inside.area c.self.inside.service c.self.inside.octets.items c.self.inside.index.found c.self.inside.failed c.self.inside.doubted c.self.invariant.0 (g.D.Disk.told c.read_along.new.disk) c.read_along.ensures.image c.in-Ok.ensures.settled c.put_doubted.new.octets.items c.deref.result.now c.len-gate.result c.deref.ensures.value c.put_doubted.ensures.octets gate c.in-Ok.along.same c.in-Ok.along.closed c.in-Ok.ensures.along (c.find.ensures.other c.if-not-find.true)))
