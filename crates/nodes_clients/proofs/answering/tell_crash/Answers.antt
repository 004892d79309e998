use Rattle.std.proofs.Common.{[], ◌∷◌, ◌++◌}
use Rattle.nodes_world.specs.Told.{Down}
use Rattle.nodes_state.proofs.Doing.{part_first}
use Rattle.nodes_state.proofs.Failing.{some_failed}
use Rattle.nodes_clients.proofs.Answered.{one_then}
use Rattle.nodes_clients.proofs.answering.tell_crash.Goals as goal

pub returns-in_err-tell_heard : goal.returns-in_err-tell_heard
returns-in_err-tell_heard c = λ w some names told.
    some_failed (some ++ Down c.args.node ∷ []) c.args.lines.now.items c.tell_heard.new.lines.items c.from_residual.result c.from_residual.ensures.0
    (part_first some (Down c.args.node ∷ []) c.args.lines.now.items c.tell_heard.new.lines.items (c.in_err-tell_heard.ensures w some names told))

pub returns : goal.returns
returns c = λ w some names told.
    one_then some (Down c.args.node) c.args.lines.now.items c.tell_heard.new.lines.items c.tell_down.new.lines.items c.tell_down.result
    (c.in_ok-tell_heard.ensures w some names told) c.tell_down.ensures
