use Rattle.std.proofs.Common.{sym}
use Rattle.decision_journal.specs.Journal.{is_decision_at}
use Rattle.recovery_coord.proofs.Halving.{any_found, none_found}
use Rattle.recovery_coord.proofs.finding.stands.Goals as goal

pub returns-in-Some : goal.returns-in-Some
returns-in-Some c = sym (any_found (is_decision_at c.args.place) c.args.standing.now _ (sym c.in-Some.ensures))

pub returns-in-None : goal.returns-in-None
returns-in-None c = sym (none_found (is_decision_at c.args.place) c.args.standing.now (sym c.in-None.ensures))
