use Rattle.std.proofs.Common.{ap, subst, ◌∙◌}
use Rattle.coordinator.specs.NodeCalls.{family_for}
use Rattle.nodes_world.specs.Nodes.{answer_told, entries_of}
use Rattle.nodes_state.specs.Telling.{TellsSome}
use Rattle.nodes_clients.specs.Answering.{spoken_of}
use Rattle.nodes_clients.proofs.Answered.{node_same}
use Rattle.nodes_clients.proofs.carrying.tell_passed.Goals as goal

pub returns-in-Some : goal.returns-in-Some
returns-in-Some c = λ w n names up.
    subst (λ f. TellsSome (answer_told w (spoken_of f c.args.recorded) (entries_of f) c.args.answer.now) c.args.lines.now.items c.tell_answer.new.lines.items c.tell_answer.result)
    (c.family_for.ensures ∙ ap (λ m. family_for c.args.key.now c.args.event.now m) (node_same c.in-Some.node.now.node n _ c.in-Some.ensures up))
    (c.tell_answer.ensures w names)
