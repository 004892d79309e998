use Rattle.std.proofs.Common.{sym, subst}
use Rattle.nodes_world.specs.Happenings.{outcome_lines}
use Rattle.nodes_state.specs.Telling.{TellsOne}
use Rattle.nodes_state.proofs.telling.tell_outcome.Goals as goal

pub returns-in-Rollback : goal.returns-in-Rollback
returns-in-Rollback c = λ w k names stands.
    subst (λ o. TellsOne (outcome_lines w k o c.args.transaction) c.args.lines.now.items c.tell_rollback.new.lines.items c.tell_rollback.result)
    (sym c.in-Rollback.is) (c.tell_rollback.ensures w k names stands)
