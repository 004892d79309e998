use Rattle.std.proofs.Common.{◌≡◌, ℕ, List, filter_map, Err, None, ap, sym, subst, ◌∙◌}
use Rattle.std.proofs.lemmas.Result.{err_from_is_err_and}
use Rattle.coordinator.specs.declared.event.Act.TheVariants as acts
use Rattle.nodes_parts.specs.Naming.{Names}
use Rattle.nodes_world.specs.Clients.{created, creates_sub}
use Rattle.nodes_world.specs.World.{resource_in, thing_in}
use Rattle.nodes_world.specs.declared.thing.Thing.{Thing}
use Rattle.nodes_state.specs.Shown.{shown}
use Rattle.nodes_clients.proofs.Behind.{behind_ends, behind_fails, created_keeps, line_fails, not_made}
use Rattle.nodes_clients.proofs.Kept.{keeps_on}
use Rattle.nodes_clients.proofs.making.create_sub.Goals as goal

pub name_created-requires-clause-free : goal.name_created-requires-clause-free
name_created-requires-clause-free c =
    subst (λ (n : Names). thing_in n.things c.args.name.now ≡ None) (sym c.in_ok-made.ensures.names) c.requires.free

pub returns-in_err-made-clause-does : goal.returns-in_err-made-clause-does
unfolding creates_sub
returns-in_err-made-clause-does c =
    let p = err_from_is_err_and c.from_residual.result c.from_residual.ensures.1 in
    not_made c.args.parent.now acts.CreateSubtransaction (created c.args.parent.now c.args.name.now) (shown c.args.state.now)
    (created_keeps c.args.parent.now c.args.name.now) (shown c.make_call.new.state) c.args.lines.now.items c.make_call.new.lines.items
    c.from_residual.result c.in_err-made.field-0.0 (p.1 ∙ ap Err p.2) c.in_err-made.ensures.made

pub returns-in_err-name_created-clause-does : goal.returns-in_err-name_created-clause-does
unfolding creates_sub
returns-in_err-name_created-clause-does c =
    let p = err_from_is_err_and c.from_residual-in_err-name_created.result c.from_residual-in_err-name_created.ensures.1 in
    behind_fails c.args.parent.now acts.CreateSubtransaction (created c.args.parent.now c.args.name.now) (shown c.args.state.now) c.in_ok-made.made
    (shown c.make_call.new.state) c.args.lines.now.items c.make_call.new.lines.items c.in_ok-made.ensures.made (shown c.name_created.new.state)
    c.name_created.new.lines.items c.from_residual-in_err-name_created.result c.in_err-name_created.field-0.0 (p.1 ∙ ap Err p.2)
    c.in_err-name_created.ensures.does

pub returns-in_err-tell_made-clause-does : goal.returns-in_err-tell_made-clause-does
unfolding creates_sub
returns-in_err-tell_made-clause-does c =
    let p = err_from_is_err_and c.from_residual-in_err-tell_made.result c.from_residual-in_err-tell_made.ensures.1 in
    line_fails c.args.parent.now acts.CreateSubtransaction (created c.args.parent.now c.args.name.now) (shown c.args.state.now) c.in_ok-made.made
    (shown c.make_call.new.state) c.args.lines.now.items c.make_call.new.lines.items c.in_ok-made.ensures.made (shown c.name_created.new.state)
    c.name_created.new.lines.items c.tell_made.new.lines.items c.from_residual-in_err-tell_made.result p.0 p.1 p.2 c.in_ok-name_created.ensures.does
    c.in_err-tell_made.ensures

pub returns-clause-does : goal.returns-clause-does
unfolding creates_sub
returns-clause-does c =
    behind_ends c.args.parent.now acts.CreateSubtransaction (created c.args.parent.now c.args.name.now) (shown c.args.state.now) c.in_ok-made.made
    (shown c.make_call.new.state) c.args.lines.now.items c.make_call.new.lines.items c.in_ok-made.ensures.made (shown c.name_created.new.state)
    c.name_created.new.lines.items c.tell_made.new.lines.items c.in_ok-name_created.ensures.does c.in_ok-tell_made.ensures

pub returns-clause-seats : goal.returns-clause-seats
returns-clause-seats c =
    keeps_on c.args.state.now c.make_call.new.state c.name_created.new.state c.in_ok-made.ensures.seats c.name_created.ensures.seats

pub returns-clause-resources : goal.returns-clause-resources
returns-clause-resources c =
    c.in_ok-name_created.ensures.resources
    ∙ ap (λ (n : Names). filter_map (λ (entry : List ℕ × Thing). resource_in entry.0 entry.1) n.things) c.in_ok-made.ensures.names
