use Rattle.decision_journal.proofs.Kept.{leaves_found, within_now}
use Rattle.decision_journal.proofs.keeping.Journal.put_bytes.Goals as goal

pub returns-clause-stands : goal.returns-clause-stands
returns-clause-stands g c =
    let now = within_now (g.D.Disk.told c.self.inside.disk) c.self.inside.area c.self.inside.service c.self.inside.octets.items c.self.inside.index.found c.self.inside.failed c.self.inside.doubted c.self.invariant.0 in
    rw (← c.self.view_is) (leaves_found c.self.inside.service c.self.inside.octets.items c.self.inside.index.found now.filled)
