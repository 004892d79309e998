use Rattle.std.proofs.Common.{Err, Ok, refl, sym, ap, ◌∙◌}
use Rattle.std.proofs.lemmas.Result.{err_from_is_err_and}
use Rattle.nodes_world.specs.Clients.{acts_at, answer_only}
use Rattle.nodes_world.specs.Nodes.{steps}
use Rattle.nodes_state.specs.Shown.{shown}
use Rattle.nodes_deliveries.proofs.CalledAgain.{again_does, again_nowhere, step_broke, step_silent, step_told, step_untold}
use Rattle.nodes_deliveries.proofs.Heard.{does_as_nothing}
use Rattle.nodes_ready.proofs.Readied.{ready_carried}
use Rattle.nodes_deliveries.proofs.again.act_again.Goals as goal

pub returns-in_default-clause-does : goal.returns-in_default-clause-does
returns-in_default-clause-does c =
    does_as_nothing (acts_at c.args.number c.args.to.now c.args.act answer_only (shown c.args.state.now)) (shown c.args.state.now) c.args.lines.now.items
    (again_nowhere c.args.number c.args.to.now c.args.act (shown c.args.state.now) c.place_of-place.result c.place_of-place.ensures (sym c.clock.ensures ∙ c.in_default.is))

pub returns-in_err-answer-clause-does : goal.returns-in_err-answer-clause-does
returns-in_err-answer-clause-does c =
    let p = err_from_is_err_and c.from_residual.result c.from_residual.ensures.1 in
    again_does c.args.number c.args.to.now c.args.act (shown c.args.state.now) (shown c.carry.new.state) c.place_of-place.result c.in-Some.now c.call_event-event.result
    c.args.lines.now.items c.carry.new.lines.items c.from_residual.result c.place_of-place.ensures c.call_event-event.ensures (sym c.clock.ensures ∙ c.in-Some.is)
    (step_broke c.args.number (steps c.place_of-place.result c.args.to.now c.call_event-event.result (shown c.args.state.now)) (shown c.carry.new.state)
    c.args.lines.now.items c.carry.new.lines.items c.carry.new.lines.items c.from_residual.result c.in_err-answer.field-0.0 (p.1 ∙ ap Err p.2) c.in_err-answer.ensures.carried)

pub returns-in_err-tell_answer-in-Some-2-clause-does : goal.returns-in_err-tell_answer-in-Some-2-clause-does
returns-in_err-tell_answer-in-Some-2-clause-does c =
    let result = c.from_residual-in_err-tell_answer-in-Some-2.result in
    let p = err_from_is_err_and result c.from_residual-in_err-tell_answer-in-Some-2.ensures.1 in
    again_does c.args.number c.args.to.now c.args.act (shown c.args.state.now) (shown c.carry.new.state) c.place_of-place.result c.in-Some.now c.call_event-event.result
    c.args.lines.now.items c.tell_answer.new.lines.items result c.place_of-place.ensures c.call_event-event.ensures (sym c.clock.ensures ∙ c.in-Some.is)
    (step_untold c.args.number (steps c.place_of-place.result c.args.to.now c.call_event-event.result (shown c.args.state.now)) (shown c.carry.new.state)
    c.args.lines.now.items c.carry.new.lines.items c.tell_answer.new.lines.items result c.in-Some-2.answer p.0 (sym c.in-Some-2.is ∙ c.in_ok-answer.ensures.carried.0)
    c.in_ok-answer.ensures.carried.1 p.1 p.2 c.in_err-tell_answer-in-Some-2.ensures)

pub returns-in-Some-2-clause-does : goal.returns-in-Some-2-clause-does
returns-in-Some-2-clause-does c =
    again_does c.args.number c.args.to.now c.args.act (shown c.args.state.now) (shown c.carry.new.state) c.place_of-place.result c.in-Some.now c.call_event-event.result
    c.args.lines.now.items c.tell_answer.new.lines.items (Ok tt) c.place_of-place.ensures c.call_event-event.ensures (sym c.clock.ensures ∙ c.in-Some.is)
    (step_told c.args.number (steps c.place_of-place.result c.args.to.now c.call_event-event.result (shown c.args.state.now)) (shown c.carry.new.state)
    c.args.lines.now.items c.carry.new.lines.items c.tell_answer.new.lines.items (Ok tt) c.in-Some-2.answer (sym c.in-Some-2.is ∙ c.in_ok-answer.ensures.carried.0)
    c.in_ok-answer.ensures.carried.1 c.in_ok-tell_answer-in-Some-2.ensures refl)

pub returns-in-Some-2-clause-ready : goal.returns-in-Some-2-clause-ready
returns-in-Some-2-clause-ready c =
    ready_carried c.args.state.now c.carry.new.state c.place_of-place.result c.args.to.now c.call_event-event.result c.in_ok-answer.ensures.seats
    c.in_ok-answer.ensures.names c.in_ok-answer.ensures.carried.1.0 c.requires.ready

pub returns-clause-does : goal.returns-clause-does
returns-clause-does c =
    again_does c.args.number c.args.to.now c.args.act (shown c.args.state.now) (shown c.carry.new.state) c.place_of-place.result c.in-Some.now c.call_event-event.result
    c.args.lines.now.items c.carry.new.lines.items (Ok tt) c.place_of-place.ensures c.call_event-event.ensures (sym c.clock.ensures ∙ c.in-Some.is)
    (step_silent c.args.number (steps c.place_of-place.result c.args.to.now c.call_event-event.result (shown c.args.state.now)) (shown c.carry.new.state)
    c.args.lines.now.items c.carry.new.lines.items (sym c.in-None.is ∙ c.in_ok-answer.ensures.carried.0) c.in_ok-answer.ensures.carried.1)

pub returns-clause-ready : goal.returns-clause-ready
returns-clause-ready c =
    ready_carried c.args.state.now c.carry.new.state c.place_of-place.result c.args.to.now c.call_event-event.result c.in_ok-answer.ensures.seats
    c.in_ok-answer.ensures.names c.in_ok-answer.ensures.carried.1.0 c.requires.ready
