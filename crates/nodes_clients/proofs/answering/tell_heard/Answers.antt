use Rattle.std.proofs.Common.{sym, subst}
use Rattle.nodes_world.specs.Happenings.{cast_of}
use Rattle.nodes_state.specs.Telling.{TellsSome}
use Rattle.nodes_clients.specs.Answering.{AreTold}
use Rattle.nodes_clients.proofs.answering.tell_heard.Goals as goal

pub returns-in-Some : goal.returns-in-Some
returns-in-Some c = λ w some names told.
    let t = subst (λ o. AreTold w o c.args.effects.now some) c.in-Some.is told in
    subst (λ ls. TellsSome ls c.args.lines.now.items c.tell_effects.new.lines.items c.tell_effects.result) (sym t.2)
    (c.tell_effects.ensures w (cast_of t.0) names (c.of_roster.ensures w t.0 t.1))
