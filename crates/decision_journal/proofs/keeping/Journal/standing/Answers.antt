use Rattle.decision_journal.proofs.Fitting.{stand_fit}
use Rattle.decision_journal.proofs.Kept.{within_now}
use Rattle.decision_journal.proofs.keeping.Journal.standing.Goals as goal

pub returns-clause-fit : goal.returns-clause-fit
returns-clause-fit g c =
    let now = within_now (g.D.Disk.told c.self.inside.disk) c.self.inside.area c.self.inside.service c.self.inside.octets.items c.self.inside.index.found c.self.inside.failed c.self.inside.doubted c.self.invariant.0 in
    rw (← c.self.view_is) (stand_fit c.self.inside.service c.self.inside.octets.items c.self.inside.index.found now.filled)
