use Rattle.std.proofs.Common.{Err, ap, ◌∙◌}
use Rattle.std.proofs.lemmas.Result.{err_from_is_err_and}
use Rattle.ots_world.specs.declared.fault.WorldFault.TheVariants as faults
use Rattle.nodes_state.specs.Shown.{shown}
use Rattle.nodes_state.proofs.Failing.{does_fail}
use Rattle.nodes_seats.specs.Placed.{comes_up_at}
use Rattle.nodes_seats.proofs.Rising.{came_up, half_up}
use Rattle.nodes_seats.proofs.restarts.come_up.Goals as goal

pub returns-in_err-tell_up_at-clause-does : goal.returns-in_err-tell_up_at-clause-does
returns-in_err-tell_up_at-clause-does c =
    let p = err_from_is_err_and c.from_residual.result c.from_residual.ensures.1 in
    let w = shown c.args.state.now in
    does_fail (comes_up_at c.args.place c.args.node.node c.args.node.disk w) (shown c.set_server.new.state) c.args.lines.now.items c.tell_up_at.new.lines.items
    c.from_residual.result faults.Memory (p.1 ∙ ap Err p.2)
    (half_up c.args.place c.args.node.node c.args.node.disk w (shown c.set_server.new.state) c.args.lines.now.items c.tell_up_at.new.lines.items
    c.set_server.ensures.world c.in_err-tell_up_at.ensures)

pub returns-clause-does : goal.returns-clause-does
returns-clause-does c =
    came_up c.args.place c.args.node.node c.args.node.disk (shown c.args.state.now) (shown c.set_server.new.state) c.args.lines.now.items
    c.tell_up_at.new.lines.items c.set_server.ensures.world c.in_ok-tell_up_at.ensures
