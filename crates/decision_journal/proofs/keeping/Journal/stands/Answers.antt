use Rattle.std.proofs.Common.{◌∙◌, sym, arith}
use Rattle.decision_journal.proofs.Kept.{within_now}
use Rattle.decision_journal.proofs.Using.{room_done}
use Rattle.decision_journal.proofs.keeping.Journal.stands.Goals as goal

pub returns-clause-within : goal.returns-clause-within
returns-clause-within g c =
    let now = within_now (g.D.Disk.told c.self.inside.disk) c.self.inside.area c.self.inside.service c.self.inside.octets.items c.self.inside.index.found c.self.inside.failed c.self.inside.doubted c.self.invariant.0 in
    rw (← c.self.view_is) (λ stands. omega (arith, now.room, room_done c.self.inside.octets.items c.self.inside.index.found c.args.place (sym c.stands.ensures ∙ stands)))
