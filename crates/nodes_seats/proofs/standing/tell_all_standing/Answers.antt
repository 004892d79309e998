use Rattle.std.proofs.Common.{subst}
use Rattle.recovery_coord.specs.declared.held.Held.{Held}
use Rattle.nodes_state.specs.Telling.{Tells}
use Rattle.std.specs.List.{flat_map}
use Rattle.nodes_world.specs.Lives.{standing_lines}
use Rattle.nodes_state.proofs.Failing.{some_failed}
use Rattle.nodes_state.proofs.Progress.{telling_breaks}
use Rattle.nodes_seats.proofs.Standings.{all_told, each_told}
use Rattle.nodes_seats.proofs.standing.tell_all_standing.Goals as goal

pub returns-in_err-tell_standing : goal.returns-in_err-tell_standing
returns-in_err-tell_standing c = λ w names.
    some_failed (flat_map (standing_lines w c.args.service) c.args.records.now) c.args.lines.now.items c.tell_standing.new.lines.items c.from_residual.result
    c.from_residual.ensures.0 (telling_breaks _ _ _ _ _ (c.loop-held.invariant w names) (c.in_err-tell_standing.ensures w names))

pub loop-held-preserved : goal.loop-held-preserved
loop-held-preserved c = λ w names.
    each_told (standing_lines w c.args.service) c.args.records.now c.loop-held.held-index (flat_map (standing_lines w c.args.service) c.args.records.now)
    c.args.lines.now.items c.loop-held.lines.items c.held-item.result c.tell_standing.new.lines.items c.loop-held-test.true (c.loop-held.invariant w names)
    (subst (λ (h : Held). Tells (standing_lines w c.args.service h) c.loop-held.lines.items c.tell_standing.new.lines.items) c.held-item.is
    (c.in_ok-tell_standing.ensures w names))

pub returns : goal.returns
returns c = λ w names.
    all_told (standing_lines w c.args.service) c.args.records.now c.loop-held.held-index (flat_map (standing_lines w c.args.service) c.args.records.now)
    c.args.lines.now.items c.loop-held.lines.items c.loop-held-test.false (c.loop-held.invariant w names)
