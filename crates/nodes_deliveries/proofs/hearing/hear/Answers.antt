use Rattle.std.proofs.Common.{◌-◌, List, Err, Ok, refl, sym, ap, subst, ◌∙◌, arith, slice_get}
use Rattle.std.proofs.lemmas.Option.{slice_get_within}
use Rattle.std.proofs.lemmas.Result.{err_from_is_err_and}
use Rattle.nodes_parts.specs.Sending.{marked_answered}
use Rattle.nodes_world.specs.Deliveries.{hears_reply}
use Rattle.nodes_world.specs.Nodes.{steps}
use Rattle.nodes_world.specs.declared.message.Message.{Message}
use Rattle.nodes_state.specs.Shown.{shown}
use Rattle.nodes_state.proofs.Failing.{does_fail}
use Rattle.nodes_state.proofs.Named.{names_stay}
use Rattle.nodes_ready.proofs.Growing.{KeepsCalls}
use Rattle.nodes_deliveries.proofs.Heard.{answered_keeps, does_as_nothing, heard_event, no_clock, reply_heard, unheard, unseated, waits}
use Rattle.nodes_ready.proofs.Readied.{ready_carried, ready_messages}
use Rattle.nodes_deliveries.proofs.hearing.hear.Goals as goal

pub returns-in_default-clause-does : goal.returns-in_default-clause-does
returns-in_default-clause-does c = λ answer is.
    does_as_nothing (hears_reply c.args.request answer (shown c.args.state.now)) (shown c.args.state.now) c.args.lines.now.items
    (unheard (shown c.args.state.now) c.args.request answer (sym c.waiting.ensures ∙ c.in_default.is))

pub returns-in_default-clock-clause-does : goal.returns-in_default-clock-clause-does
returns-in_default-clock-clause-does c = λ answer is.
    let h = waits (shown c.args.state.now) c.args.request c.in-Some.from c.in-Some.number (sym c.waiting.ensures ∙ c.in-Some.is) in
    does_as_nothing (hears_reply c.args.request answer (shown c.args.state.now)) (shown c.args.state.now) c.args.lines.now.items
    (unseated (shown c.args.state.now) c.args.request c.in-Some.from c.in-Some.number answer h
    (no_clock (slice_get (shown c.args.state.now).seats c.in-Some.from) (sym c.clock.ensures ∙ c.in_default-clock.is)))

pub answer-requires : goal.answer-requires
answer-requires c =
    let h = waits (shown c.args.state.now) c.args.request c.in-Some.from c.in-Some.number (sym c.waiting.ensures ∙ c.in-Some.is) in
    let less = slice_get_within c.args.state.now.messages (c.args.request - 1) h.message h.there in
    let at = c.message_place.ensures in
    record { there = omega arith }

pub carry-requires-clause-names : goal.carry-requires-clause-names
carry-requires-clause-names c =
    names_stay c.args.state.now (record c.args.state.now { messages = c.answer.new.self }) (record { seats = refl; names = refl }) c.requires.ready.whole.names

pub returns-in_err-carry-clause-does : goal.returns-in_err-carry-clause-does
returns-in_err-carry-clause-does c = λ answer is.
    let p = err_from_is_err_and c.from_residual.result c.from_residual.ensures.1 in
    let event = heard_event c.in-Some.number c.args.heard c.in-Some-clock.now in
    reply_heard c.args.state.now c.answer.new.self c.args.request c.in-Some.from c.in-Some-clock.now c.in-Some.number c.family_key.result answer c.args.heard
    (shown c.carry.new.state) c.args.lines.now.items c.carry.new.lines.items c.from_residual.result (sym c.waiting.ensures ∙ c.in-Some.is)
    (sym c.clock.ensures ∙ c.in-Some-clock.is) is (c.answer.ensures ∙ ap (λ n. marked_answered n c.args.state.now.messages) c.message_place.ensures)
    c.family_key.ensures
    (does_fail (steps c.in-Some.from c.family_key.result event (shown (record c.args.state.now { messages = c.answer.new.self }))).done (shown c.carry.new.state)
    c.args.lines.now.items c.carry.new.lines.items c.from_residual.result c.in_err-carry.field-0.0 (p.1 ∙ ap Err p.2) c.in_err-carry.ensures.carried)

pub returns-clause-does : goal.returns-clause-does
returns-clause-does c = λ answer is.
    reply_heard c.args.state.now c.answer.new.self c.args.request c.in-Some.from c.in-Some-clock.now c.in-Some.number c.family_key.result answer c.args.heard
    (shown c.carry.new.state) c.args.lines.now.items c.carry.new.lines.items (Ok tt) (sym c.waiting.ensures ∙ c.in-Some.is)
    (sym c.clock.ensures ∙ c.in-Some-clock.is) is (c.answer.ensures ∙ ap (λ n. marked_answered n c.args.state.now.messages) c.message_place.ensures)
    c.family_key.ensures c.in_ok-carry.ensures.carried.1

pub returns-clause-ready : goal.returns-clause-ready
returns-clause-ready c =
    let messages = c.args.state.now.messages in
    ready_carried (record c.args.state.now { messages = c.answer.new.self }) c.carry.new.state c.in-Some.from c.family_key.result
    (heard_event c.in-Some.number c.args.heard c.in-Some-clock.now) c.in_ok-carry.ensures.seats c.in_ok-carry.ensures.names c.in_ok-carry.ensures.carried.1.0
    (ready_messages c.args.state.now c.answer.new.self
    (subst (λ (ms : List Message). KeepsCalls messages ms) (sym c.answer.ensures) (answered_keeps messages c.message_place.result)) c.requires.ready)
