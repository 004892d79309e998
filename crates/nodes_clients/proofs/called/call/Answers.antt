use Rattle.std.proofs.Common.{Err, ap, ◌∙◌}
use Rattle.std.proofs.lemmas.Result.{err_from_is_err_and}
use Rattle.nodes_state.specs.Shown.{shown}
use Rattle.nodes_clients.proofs.Makes.{call_breaks, call_ends, call_starves}
use Rattle.nodes_clients.proofs.called.call.Goals as goal

pub returns-in_err-made-clause-does : goal.returns-in_err-made-clause-does
returns-in_err-made-clause-does c =
    let p = err_from_is_err_and c.from_residual.result c.from_residual.ensures.1 in
    call_breaks c.args.to.now c.args.act (shown c.args.state.now) (shown c.make_call.new.state) c.args.lines.now.items c.make_call.new.lines.items
    c.from_residual.result c.in_err-made.field-0.0 (p.1 ∙ ap Err p.2) c.in_err-made.ensures.made

pub returns-in_err-tell_made-clause-does : goal.returns-in_err-tell_made-clause-does
returns-in_err-tell_made-clause-does c =
    let p = err_from_is_err_and c.from_residual-in_err-tell_made.result c.from_residual-in_err-tell_made.ensures.1 in
    call_starves c.args.to.now c.args.act (shown c.args.state.now) (shown c.make_call.new.state) c.args.lines.now.items c.make_call.new.lines.items
    c.tell_made.new.lines.items c.in_ok-made.made c.from_residual-in_err-tell_made.result p.0 p.1 p.2 c.in_ok-made.ensures.made c.in_err-tell_made.ensures

pub returns-clause-does : goal.returns-clause-does
returns-clause-does c =
    call_ends c.args.to.now c.args.act (shown c.args.state.now) (shown c.make_call.new.state) c.args.lines.now.items c.make_call.new.lines.items
    c.tell_made.new.lines.items c.in_ok-made.made c.in_ok-made.ensures.made c.in_ok-tell_made.ensures
