use Rattle.nodes_plays.proofs.Played.{commit_plays, crash_plays, nested_plays, rollback_plays, short_plays}
use Rattle.nodes_plays.proofs.plays.agreement_is_met.Goals as goal

pub returns-clause-commit : goal.returns-clause-commit
returns-clause-commit c = commit_plays c.lines_keep_agreement.ensures

pub returns-clause-rollback : goal.returns-clause-rollback
returns-clause-rollback c = rollback_plays c.lines_keep_agreement.ensures

pub returns-clause-crash : goal.returns-clause-crash
returns-clause-crash c = crash_plays c.lines_keep_agreement.ensures

pub returns-clause-nested : goal.returns-clause-nested
returns-clause-nested c = nested_plays c.lines_keep_agreement.ensures

pub returns-clause-short : goal.returns-clause-short
returns-clause-short c = short_plays c.lines_keep_agreement.ensures
