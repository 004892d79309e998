use Rattle.std.proofs.Common.{None, sym, subst}
use Rattle.nodes_world.specs.Happenings.{cast_of, cast_of_key}
use Rattle.nodes_world.specs.Nodes.{effects_told}
use Rattle.nodes_state.specs.Telling.{TellsSome}
use Rattle.nodes_clients.specs.Answering.{family_in, spoken_of}
use Rattle.nodes_clients.proofs.answering.tell_happened.Goals as goal

pub returns-in-Some : goal.returns-in-Some
returns-in-Some c = λ w names.
    subst (λ o. TellsSome (effects_told w (spoken_of (family_in o) c.args.recorded) c.args.effects.now) c.args.lines.now.items c.tell_effects.new.lines.items c.tell_effects.result)
    (sym c.in-Some.is) (c.tell_effects.ensures w (cast_of c.in-Some.family.now.family) names (c.of.ensures w))

pub returns-in-Some-recorded : goal.returns-in-Some-recorded
returns-in-Some-recorded c = λ w names.
    let before = c.args.lines.now.items in
    let after = c.tell_effects-in-Some-recorded.new.lines.items in
    let result = c.tell_effects-in-Some-recorded.result in
    subst (λ o. TellsSome (effects_told w (spoken_of (family_in o) c.args.recorded) c.args.effects.now) before after result) (sym c.in-None.is)
    (subst (λ r. TellsSome (effects_told w (spoken_of None r) c.args.effects.now) before after result) (sym c.in-Some-recorded.is)
    (c.tell_effects-in-Some-recorded.ensures w (cast_of_key c.in-Some-recorded.key) names (c.of_key.ensures w)))
