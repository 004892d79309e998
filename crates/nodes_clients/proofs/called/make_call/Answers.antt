use Rattle.std.proofs.Common.{Ok, Err, unwrap_or, slice_get, ap, subst, ◌∙◌}
use Rattle.std.specs.Option.{option_map}
use Rattle.std.proofs.lemmas.Result.{err_from_is_err_and}
use Rattle.coordinator.specs.declared.event.Event.{Event}
use Rattle.service_node.specs.Given.{node_makes}
use Rattle.nodes_world.specs.Clients.{call_event}
use Rattle.nodes_world.specs.Nodes.{Stepping, steps}
use Rattle.nodes_world.specs.Objects.{place_of}
use Rattle.nodes_world.specs.World.{Seat}
use Rattle.nodes_state.specs.Does.{BreaksOff, Does}
use Rattle.nodes_state.specs.Shown.{shown}
use Rattle.nodes_state.proofs.Named.{names_stay}
use Rattle.nodes_clients.specs.Calling.{sends_call}
use Rattle.nodes_clients.specs.Carrying.{HasCarried}
use Rattle.nodes_clients.proofs.Makes.{clock_read, few_stay, made_breaks, made_ends, made_first}
use Rattle.nodes_clients.proofs.Kept.{keeps_before}
use Rattle.nodes_clients.proofs.called.make_call.Goals as goal

pub carry-requires-clause-few : goal.carry-requires-clause-few
carry-requires-clause-few c = few_stay c.args.state.now c.send_call.new.state c.in_ok-send_call.ensures.same.seats c.requires.few

pub carry-requires-clause-names : goal.carry-requires-clause-names
carry-requires-clause-names c = names_stay c.args.state.now c.send_call.new.state c.in_ok-send_call.ensures.same c.requires.names

pub carry-requires-clause-given : goal.carry-requires-clause-given
carry-requires-clause-given c = ap (λ (e : Event). node_makes e.act) c.call_event-event.ensures ∙ c.requires.given

pub returns-in_err-send_call-clause-made : goal.returns-in_err-send_call-clause-made
returns-in_err-send_call-clause-made c =
    let w = shown c.args.state.now in
    let p = err_from_is_err_and c.from_residual.result c.from_residual.ensures.1 in
    let now = c.unwrap_or-now.result in
    let same = clock_read w (place_of c.args.to.now) now
    (c.unwrap_or-now.ensures ∙ ap (λ o. unwrap_or o 0) (c.clock.ensures ∙ ap (λ n. option_map (λ (s : Seat). s.clock) (slice_get w.seats n)) c.place_of-place.ensures)) in
    let fault = c.in_err-send_call.field-0.0 in
    made_first c.args.to.now c.args.act w now same (shown c.send_call.new.state) c.args.lines.now.items c.send_call.new.lines.items c.from_residual.result fault
    (p.1 ∙ ap Err p.2)
    (subst (λ (e : Event). BreaksOff (sends_call c.args.to.now e.act w) fault c.args.lines.now.items c.send_call.new.lines.items) c.call_event-event.ensures
    c.in_err-send_call.ensures.does)

pub returns-in_err-answer-clause-made : goal.returns-in_err-answer-clause-made
returns-in_err-answer-clause-made c =
    let w = shown c.args.state.now in
    let to = c.args.to.now in
    let act = c.args.act in
    let u = shown c.send_call.new.state in
    let p = err_from_is_err_and c.from_residual-in_err-answer.result c.from_residual-in_err-answer.ensures.1 in
    let now = c.unwrap_or-now.result in
    let same = clock_read w (place_of to) now
    (c.unwrap_or-now.ensures ∙ ap (λ o. unwrap_or o 0) (c.clock.ensures ∙ ap (λ n. option_map (λ (s : Seat). s.clock) (slice_get w.seats n)) c.place_of-place.ensures)) in
    let event = c.call_event-event.ensures ∙ ap (λ n. call_event n to act now) c.next_number-message.ensures.number in
    let fault = c.in_err-answer.field-0.0 in
    let sent : Does (sends_call to act w) u c.args.lines.now.items c.send_call.new.lines.items c.send_call.result
    = subst (λ (e : Event). Does (sends_call to e.act w) u c.args.lines.now.items c.send_call.new.lines.items c.send_call.result) c.call_event-event.ensures c.send_call.ensures.does in
    let went = subst (λ r. Does (sends_call to act w) u c.args.lines.now.items c.send_call.new.lines.items r) c.in_ok-send_call.was sent in
    made_breaks to act w now same u (shown c.carry.new.state) c.args.lines.now.items c.send_call.new.lines.items c.carry.new.lines.items
    c.from_residual-in_err-answer.result fault (p.1 ∙ ap Err p.2) went.0 went.1
    (subst (λ (x : Stepping). BreaksOff x.done fault c.send_call.new.lines.items c.carry.new.lines.items)
    (ap (λ n. steps n to c.call_event-event.result u) c.place_of-place.ensures ∙ ap (λ (e : Event). steps (place_of to) to e u) event)
    c.in_err-answer.ensures.carried)

pub returns-clause-made : goal.returns-clause-made
returns-clause-made c =
    let w = shown c.args.state.now in
    let to = c.args.to.now in
    let act = c.args.act in
    let u = shown c.send_call.new.state in
    let now = c.unwrap_or-now.result in
    let same = clock_read w (place_of to) now
    (c.unwrap_or-now.ensures ∙ ap (λ o. unwrap_or o 0) (c.clock.ensures ∙ ap (λ n. option_map (λ (s : Seat). s.clock) (slice_get w.seats n)) c.place_of-place.ensures)) in
    let event = c.call_event-event.ensures ∙ ap (λ n. call_event n to act now) c.next_number-message.ensures.number in
    let sent : Does (sends_call to act w) u c.args.lines.now.items c.send_call.new.lines.items c.send_call.result
    = subst (λ (e : Event). Does (sends_call to e.act w) u c.args.lines.now.items c.send_call.new.lines.items c.send_call.result) c.call_event-event.ensures c.send_call.ensures.does in
    let went = subst (λ r. Does (sends_call to act w) u c.args.lines.now.items c.send_call.new.lines.items r) c.in_ok-send_call.was sent in
    made_ends to act w now same u (shown c.carry.new.state) c.args.lines.now.items c.send_call.new.lines.items c.carry.new.lines.items
    (record { message = c.next_number-message.result; said = c.said_of.result }) c.in_ok-answer.answer went.0 went.1 c.next_number-message.ensures.number
    c.said_of.ensures
    (subst (λ (x : Stepping). HasCarried x (shown c.carry.new.state) c.send_call.new.lines.items c.carry.new.lines.items (Ok c.in_ok-answer.answer))
    (ap (λ n. steps n to c.call_event-event.result u) c.place_of-place.ensures ∙ ap (λ (e : Event). steps (place_of to) to e u) event)
    c.in_ok-answer.ensures.carried)

pub returns-clause-seats : goal.returns-clause-seats
returns-clause-seats c = keeps_before c.args.state.now c.send_call.new.state c.carry.new.state c.in_ok-send_call.ensures.same.seats c.in_ok-answer.ensures.seats
