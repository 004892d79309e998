use Rattle.decision_journal.proofs.keeping.Journal.disk.Goals as goal

pub returns-clause-kept : goal.returns-clause-kept
returns-clause-kept g c = rw (← c.self.view_is) c.self.invariant.0.kept

pub returns-clause-each : goal.returns-clause-each
returns-clause-each g c = rw (← c.self.view_is) c.self.invariant.0.each
