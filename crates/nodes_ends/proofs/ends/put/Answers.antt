use Rattle.std.proofs.Common.{Ok, refl, subst}
use Rattle.std.specs.Prelude.{codes}
use Rattle.nodes_parts.specs.Kept.{flat}
use Rattle.nodes_world.specs.Ends.{put_into, with_resource}
use Rattle.nodes_world.specs.World.{resource_at}
use Rattle.nodes_state.specs.Shown.{shown}
use Rattle.nodes_ends.specs.Ending.{IsOpened}
use Rattle.nodes_ends.proofs.EndChanged.{end_keeps}
use Rattle.nodes_ends.proofs.Obeying.{has_at, put_open, put_refused, world_changed}
use Rattle.nodes_ends.proofs.ends.put.Goals as goal

pub put_at-requires-clause-there : goal.put_at-requires-clause-there
put_at-requires-clause-there c =
    let opened = subst (λ o. IsOpened (codes "put") (resource_at (shown c.args.state.now) c.args.key.now) c.args.lines.now.items c.open_resource.new.lines.items (Ok o)) c.in-Some.is c.in_ok-resource.ensures in
    has_at c.args.state.now c.args.key.now c.place_of.result (flat c.in-Some.resource) c.place_of.ensures opened.0

pub returns-in_ok-put_at-clause-does : goal.returns-in_ok-put_at-clause-does
returns-in_ok-put_at-clause-does c =
    let opened = subst (λ o. IsOpened (codes "put") (resource_at (shown c.args.state.now) c.args.key.now) c.args.lines.now.items c.open_resource.new.lines.items (Ok o)) c.in-Some.is c.in_ok-resource.ensures in
    put_open c.args.key.now (shown c.args.state.now) (shown (record c.args.state.now { seats = c.put_at.new.seats })) c.args.lines.now.items c.open_resource.new.lines.items
    c.args.cell c.args.value (flat c.in-Some.resource) opened.0 opened.1
    (world_changed c.args.state.now c.put_at.new.seats.items c.place_of.result c.args.key.now (with_resource (put_into c.args.cell c.args.value (flat c.in-Some.resource)))
    c.place_of.ensures c.in_ok-put_at.ensures)
    opened.2

pub returns-in_ok-put_at-clause-nodes : goal.returns-in_ok-put_at-clause-nodes
returns-in_ok-put_at-clause-nodes c =
    end_keeps c.args.state.now (record c.args.state.now { seats = c.put_at.new.seats }) c.place_of.result
    (with_resource (put_into c.args.cell c.args.value (flat c.in-Some.resource))) refl c.in_ok-put_at.ensures

pub returns-in_default-clause-does : goal.returns-in_default-clause-does
returns-in_default-clause-does c =
    put_refused c.args.key.now (shown c.args.state.now) (shown c.args.state.now) c.args.lines.now.items c.open_resource.new.lines.items c.args.cell c.args.value refl
    (subst (λ o. IsOpened (codes "put") (resource_at (shown c.args.state.now) c.args.key.now) c.args.lines.now.items c.open_resource.new.lines.items (Ok o)) c.in_default.is c.in_ok-resource.ensures)
