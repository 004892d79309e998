use Rattle.nodes_world.specs.Nodes.{entries_of}
use Rattle.nodes_clients.specs.Answering.{family_in, spoken_of}
use Rattle.nodes_clients.proofs.Answered.{answer_fails, answer_goes_on}
use Rattle.nodes_clients.proofs.answering.tell_answer.Goals as goal

pub returns-in_err-tell_happened-in-Ok : goal.returns-in_err-tell_happened-in-Ok
returns-in_err-tell_happened-in-Ok c = λ w names.
    answer_fails w (spoken_of (family_in c.args.family) c.args.recorded) (entries_of (family_in c.args.family)) c.args.answer.now c.in-Ok.answer
    c.items.result.now c.args.lines.now.items c.tell_happened.new.lines.items c.from_residual.result c.in-Ok.is c.items.ensures.same
    c.from_residual.ensures.0 (c.in_err-tell_happened-in-Ok.ensures w names)

pub returns-in_ok-tell_happened-in-Ok : goal.returns-in_ok-tell_happened-in-Ok
returns-in_ok-tell_happened-in-Ok c = λ w names.
    answer_goes_on w (spoken_of (family_in c.args.family) c.args.recorded) (entries_of (family_in c.args.family)) c.entries_of.result.now c.args.answer.now
    c.in-Ok.answer c.items.result.now c.items-in-Ok.result.now c.args.lines.now.items c.tell_happened.new.lines.items c.tell_finished.new.lines.items
    c.tell_finished.result c.in-Ok.is c.items.ensures.same c.items-in-Ok.ensures.same c.entries_of.ensures
    (c.in_ok-tell_happened-in-Ok.ensures w names) c.tell_finished.ensures
