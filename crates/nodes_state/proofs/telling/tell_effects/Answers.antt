use Rattle.nodes_world.specs.Happenings.{all_effect_lines, effect_lines}
use Rattle.nodes_state.proofs.Failing.{some_failed}
use Rattle.nodes_state.proofs.Progress.{telling_breaks}
use Rattle.nodes_state.proofs.Saying.{all_told, each_told}
use Rattle.nodes_state.proofs.telling.tell_effects.Goals as goal

pub returns-in_err-tell_effect : goal.returns-in_err-tell_effect
returns-in_err-tell_effect c = λ w k names stands.
    some_failed (all_effect_lines w k c.args.effects.now) c.args.lines.now.items c.tell_effect.new.lines.items c.from_residual.result
    c.from_residual.ensures.0 (telling_breaks _ _ _ _ _ (c.loop-effect.invariant w k names stands) (c.in_err-tell_effect.ensures w k names stands))

pub loop-effect-preserved : goal.loop-effect-preserved
loop-effect-preserved c = λ w k names stands.
    each_told (effect_lines w k) c.args.effects.now c.loop-effect.effect-index (all_effect_lines w k c.args.effects.now)
    c.args.lines.now.items c.loop-effect.lines.items _ c.tell_effect.new.lines.items c.loop-effect-test.true (c.loop-effect.invariant w k names stands)
    (c.in_ok-tell_effect.ensures w k names stands)

pub returns : goal.returns
returns c = λ w k names stands.
    all_told (effect_lines w k) c.args.effects.now c.loop-effect.effect-index (all_effect_lines w k c.args.effects.now)
    c.args.lines.now.items c.loop-effect.lines.items c.loop-effect-test.false (c.loop-effect.invariant w k names stands)
