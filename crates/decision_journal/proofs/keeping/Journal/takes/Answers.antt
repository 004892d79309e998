use Rattle.std.proofs.Common.{sym, subst}
use Rattle.std.specs.Prelude.{IsTrue}
use Rattle.decision_journal.specs.Journal.{Found, can_follow}
use Rattle.decision_journal.proofs.Joined.{known_now}
use Rattle.decision_journal.proofs.Kept.{no_doubt}
use Rattle.decision_journal.proofs.keeping.Journal.takes.Goals as goal

pub returns-clause-follows : goal.returns-clause-follows
returns-clause-follows g c =
    rw (← c.self.view_is) (λ kept takes octets found may.
    let none = no_doubt c.self.inside.failed c.self.inside.octets.items c.self.inside.doubted (g.D.Disk.told c.self.inside.disk) kept c.self.invariant.0.kept in
    subst (λ (f : Found). IsTrue (can_follow f c.args.item.now)) (sym (known_now octets c.self.inside.octets.items found c.self.inside.index.found c.self.inside.doubted none may).1) (subst IsTrue c.takes.ensures takes))
