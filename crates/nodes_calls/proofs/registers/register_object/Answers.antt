use Rattle.std.proofs.Common.{Ok, Err, ap, subst, ◌∙◌}
use Rattle.std.proofs.lemmas.Result.{err_from_is_err_and}
use Rattle.service_node.specs.Given.{node_makes}
use Rattle.coordinator.specs.declared.event.Act.{Act}
use Rattle.nodes_world.specs.Clients.{calls, registered, registering}
use Rattle.nodes_state.specs.Does.{Does}
use Rattle.nodes_state.specs.Shown.{shown}
use Rattle.nodes_calls.proofs.Answering.{behind_breaks, call_breaks, call_ends, call_starves}
use Rattle.nodes_ready.proofs.CallsGrow.{registering_given}
use Rattle.nodes_ready.proofs.Readied.{ready_called}
use Rattle.nodes_calls.proofs.Registered.{object_kept, registered_grows}
use Rattle.nodes_calls.proofs.registers.register_object.Goals as goal

pub returns-in_err-made-clause-does : goal.returns-in_err-made-clause-does
returns-in_err-made-clause-does c =
    let o = c.args.object.now in
    let to = c.args.transaction.now in
    let w = shown c.args.state.now in
    let behind = registered o.manner o.key o.end to c.args.name.now in
    let p = err_from_is_err_and c.from_residual-in_err-made.result c.from_residual-in_err-made.ensures.1 in
    subst (λ (act : Act). Does (calls to act behind w) (shown c.make_call.new.state) c.args.lines.now.items c.make_call.new.lines.items c.from_residual-in_err-made.result)
    (c.registering.ensures ∙ ap (registering o.manner) c.requires.to)
    (call_breaks to c.registering.result behind w (registered_grows o.manner o.key o.end to c.args.name.now) (shown c.make_call.new.state) c.args.lines.now.items
    c.make_call.new.lines.items c.from_residual-in_err-made.result c.in_err-made.field-0.0 (p.1 ∙ ap Err p.2) c.in_err-made.ensures.made)

pub keep_registered-requires-clause-ready : goal.keep_registered-requires-clause-ready
keep_registered-requires-clause-ready c =
    ready_called c.args.state.now c.make_call.new.state c.args.transaction.now c.registering.result
    (ap node_makes c.registering.ensures ∙ registering_given c.args.object.now.manner c.args.to) c.in_ok-made.ensures.seats c.in_ok-made.ensures.names
    c.in_ok-made.ensures.made.done.0 c.requires.ready

pub keep_registered-requires-clause-made : goal.keep_registered-requires-clause-made
keep_registered-requires-clause-made c =
    object_kept c.args.state.now c.make_call.new.state c.args.object.now c.args.transaction.now c.registering.result c.in_ok-made.ensures.made.done.0
    c.in_ok-made.ensures.seats c.requires.made

pub returns-in_err-keep_registered-clause-does : goal.returns-in_err-keep_registered-clause-does
returns-in_err-keep_registered-clause-does c =
    let o = c.args.object.now in
    let to = c.args.transaction.now in
    let w = shown c.args.state.now in
    let v = shown c.keep_registered.new.state in
    let later = c.keep_registered.new.lines.items in
    let behind = registered o.manner o.key o.end to c.args.name.now in
    let p = err_from_is_err_and c.from_residual-in_err-keep_registered.result c.from_residual-in_err-keep_registered.ensures.1 in
    subst (λ (act : Act). Does (calls to act behind w) v c.args.lines.now.items later c.from_residual-in_err-keep_registered.result)
    (c.registering.ensures ∙ ap (registering o.manner) c.requires.to)
    (behind_breaks to c.registering.result behind w (registered_grows o.manner o.key o.end to c.args.name.now) (shown c.make_call.new.state) c.args.lines.now.items
    c.make_call.new.lines.items c.in_ok-made.made c.in_ok-made.ensures.made v later c.from_residual-in_err-keep_registered.result
    c.in_err-keep_registered.field-0.0 (p.1 ∙ ap Err p.2) c.in_err-keep_registered.ensures.does)

pub returns-in_err-tell_made-clause-does : goal.returns-in_err-tell_made-clause-does
returns-in_err-tell_made-clause-does c =
    let o = c.args.object.now in
    let to = c.args.transaction.now in
    let w = shown c.args.state.now in
    let v = shown c.keep_registered.new.state in
    let behind = registered o.manner o.key o.end to c.args.name.now in
    let p = err_from_is_err_and c.from_residual-in_err-tell_made.result c.from_residual-in_err-tell_made.ensures.1 in
    subst (λ (act : Act). Does (calls to act behind w) v c.args.lines.now.items c.tell_made.new.lines.items c.from_residual-in_err-tell_made.result)
    (c.registering.ensures ∙ ap (registering o.manner) c.requires.to)
    (call_starves to c.registering.result behind w (registered_grows o.manner o.key o.end to c.args.name.now) (shown c.make_call.new.state) c.args.lines.now.items
    c.make_call.new.lines.items c.in_ok-made.made c.in_ok-made.ensures.made v c.keep_registered.new.lines.items c.tell_made.new.lines.items
    c.in_ok-keep_registered.ensures.does c.from_residual-in_err-tell_made.result p.0 p.1 p.2 c.in_err-tell_made.ensures)

pub returns-clause-does : goal.returns-clause-does
returns-clause-does c =
    let o = c.args.object.now in
    let to = c.args.transaction.now in
    let w = shown c.args.state.now in
    let v = shown c.keep_registered.new.state in
    let behind = registered o.manner o.key o.end to c.args.name.now in
    subst (λ (act : Act). Does (calls to act behind w) v c.args.lines.now.items c.tell_made.new.lines.items (Ok tt))
    (c.registering.ensures ∙ ap (registering o.manner) c.requires.to)
    (call_ends to c.registering.result behind w (registered_grows o.manner o.key o.end to c.args.name.now) (shown c.make_call.new.state) c.args.lines.now.items
    c.make_call.new.lines.items c.in_ok-made.made c.in_ok-made.ensures.made v c.keep_registered.new.lines.items c.tell_made.new.lines.items
    c.in_ok-keep_registered.ensures.does c.in_ok-tell_made.ensures)
