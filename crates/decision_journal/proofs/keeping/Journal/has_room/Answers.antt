use Rattle.std.proofs.Common.{◌+◌, ◌≤◌, ℕ, List, length, ap, subst, arith}
use Rattle.std.specs.Prelude.{OnOk}
use Rattle.std.proofs.lemmas.Result.{on_ok_weaker}
use Rattle.decision_journal.specs.State.{need, used}
use Rattle.decision_journal.proofs.Few.{few}
use Rattle.decision_journal.proofs.Kept.{within_now}
use Rattle.decision_journal.proofs.Using.{room_more}
use Rattle.decision_journal.proofs.keeping.Journal.has_room.Goals as goal

pub has_room-requires-clause-gate : goal.has_room-requires-clause-gate
has_room-requires-clause-gate g c =
    let now = within_now (g.D.Disk.told c.self.inside.disk) c.self.inside.area c.self.inside.service c.self.inside.octets.items c.self.inside.index.found c.self.inside.failed c.self.inside.doubted c.self.invariant.0 in
    omega (arith, now.room, c.self.invariant.0.area_is, ap length c.deref.ensures.value)

pub has_room-requires-clause-few : goal.has_room-requires-clause-few
has_room-requires-clause-few g c =
    let now = within_now (g.D.Disk.told c.self.inside.disk) c.self.inside.area c.self.inside.service c.self.inside.octets.items c.self.inside.index.found c.self.inside.failed c.self.inside.doubted c.self.invariant.0 in
    omega (arith, few c.self.inside.service c.self.inside.octets.items c.self.inside.index.found now.filled, ap length c.deref.ensures.value)

pub returns-clause-within : goal.returns-clause-within
returns-clause-within g c =
    rw (← c.self.view_is) (on_ok_weaker c.has_room.result (room_more c.self.inside.area c.self.inside.octets.items c.self.inside.index.found c.args.item.now)
    (subst (λ (l : List ℕ). OnOk c.has_room.result (used l c.self.inside.index.found + need c.self.inside.area c.self.inside.index.found c.args.item.now ≤ c.self.inside.area)) c.deref.ensures.value c.has_room.ensures.room))
