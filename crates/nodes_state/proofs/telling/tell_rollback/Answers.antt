use Rattle.std.proofs.Common.{sym, subst}
use Rattle.std.specs.Prelude.{codes}
use Rattle.nodes_world.specs.Happenings.{naming, rollback_lines}
use Rattle.nodes_world.specs.Told.{RolledBack, RolledBackBy}
use Rattle.nodes_state.specs.Telling.{TellsOne}
use Rattle.nodes_state.proofs.Doing.{line_told}
use Rattle.nodes_state.proofs.telling.tell_rollback.Goals as goal

pub returns-in-NotStored : goal.returns-in-NotStored
returns-in-NotStored c = λ w k names stands.
    let after = c.tell_rolled_back-in-NotStored.new.lines.items in
    subst (λ r. TellsOne (rollback_lines w k c.args.transaction r) c.args.lines.now.items after c.tell_rolled_back-in-NotStored.result)
    (sym c.in-NotStored.is)
    (line_told c.tell_rolled_back-in-NotStored.result (RolledBack c.args.transaction (codes "NotStored")) c.args.lines.now.items after c.tell_rolled_back-in-NotStored.ensures)

pub returns-in-NotEnlisted : goal.returns-in-NotEnlisted
returns-in-NotEnlisted c = λ w k names stands.
    let after = c.tell_rolled_back-in-NotEnlisted.new.lines.items in
    subst (λ r. TellsOne (rollback_lines w k c.args.transaction r) c.args.lines.now.items after c.tell_rolled_back-in-NotEnlisted.result)
    (sym c.in-NotEnlisted.is)
    (line_told c.tell_rolled_back-in-NotEnlisted.result (RolledBack c.args.transaction (codes "NotEnlisted")) c.args.lines.now.items after c.tell_rolled_back-in-NotEnlisted.ensures)

pub returns-in-SyncStarved : goal.returns-in-SyncStarved
returns-in-SyncStarved c = λ w k names stands.
    let after = c.tell_by-in-SyncStarved.new.lines.items in
    subst (λ r. TellsOne (rollback_lines w k c.args.transaction r) c.args.lines.now.items after c.tell_by-in-SyncStarved.result)
    (sym c.in-SyncStarved.is)
    (subst (λ o. TellsOne (naming (RolledBackBy c.args.transaction (codes "SyncStarved")) o) c.args.lines.now.items after c.tell_by-in-SyncStarved.result)
    (c.synchronized-in-SyncStarved.ensures w k names stands) c.tell_by-in-SyncStarved.ensures)

pub returns-in-Phase : goal.returns-in-Phase
returns-in-Phase c = λ w k names stands.
    subst (λ r. TellsOne (rollback_lines w k c.args.transaction r) c.args.lines.now.items c.tell_phase_reason.new.lines.items c.tell_phase_reason.result)
    (sym c.in-Phase.is)
    (c.tell_phase_reason.ensures w k names stands)
