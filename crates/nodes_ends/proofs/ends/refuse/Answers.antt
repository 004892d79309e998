use Rattle.std.proofs.Common.{Ok, refl, subst}
use Rattle.std.specs.Prelude.{codes}
use Rattle.nodes_parts.specs.Kept.{flat}
use Rattle.nodes_world.specs.Ends.{refusing, with_resource}
use Rattle.nodes_world.specs.World.{resource_at}
use Rattle.nodes_state.specs.Shown.{shown}
use Rattle.nodes_ends.specs.Ending.{IsOpened}
use Rattle.nodes_ends.proofs.EndChanged.{end_keeps}
use Rattle.nodes_ends.proofs.Obeying.{has_at, refuse_open, refuse_refused, world_changed}
use Rattle.nodes_ends.proofs.ends.refuse.Goals as goal

pub refuse_at-requires : goal.refuse_at-requires
refuse_at-requires c =
    let opened = subst (λ o. IsOpened (codes "refuse") (resource_at (shown c.args.state.now) c.args.key.now) c.args.lines.now.items c.open_resource.new.lines.items (Ok o)) c.in-Some.is c.in_ok-resource.ensures in
    record { there = has_at c.args.state.now c.args.key.now c.place_of.result (flat c.in-Some.resource) c.place_of.ensures opened.0 }

pub returns-in-Some-clause-does : goal.returns-in-Some-clause-does
returns-in-Some-clause-does c =
    let opened = subst (λ o. IsOpened (codes "refuse") (resource_at (shown c.args.state.now) c.args.key.now) c.args.lines.now.items c.open_resource.new.lines.items (Ok o)) c.in-Some.is c.in_ok-resource.ensures in
    refuse_open c.args.key.now (shown c.args.state.now) (shown (record c.args.state.now { seats = c.refuse_at.new.seats })) c.args.lines.now.items c.open_resource.new.lines.items
    (flat c.in-Some.resource) opened.0 opened.1
    (world_changed c.args.state.now c.refuse_at.new.seats.items c.place_of.result c.args.key.now (with_resource (refusing (flat c.in-Some.resource)))
    c.place_of.ensures c.refuse_at.ensures)
    opened.2

pub returns-in-Some-clause-nodes : goal.returns-in-Some-clause-nodes
returns-in-Some-clause-nodes c =
    end_keeps c.args.state.now (record c.args.state.now { seats = c.refuse_at.new.seats }) c.place_of.result (with_resource (refusing (flat c.in-Some.resource))) refl c.refuse_at.ensures

pub returns-in_default-clause-does : goal.returns-in_default-clause-does
returns-in_default-clause-does c =
    refuse_refused c.args.key.now (shown c.args.state.now) (shown c.args.state.now) c.args.lines.now.items c.open_resource.new.lines.items refl
    (subst (λ o. IsOpened (codes "refuse") (resource_at (shown c.args.state.now) c.args.key.now) c.args.lines.now.items c.open_resource.new.lines.items (Ok o)) c.in_default.is c.in_ok-resource.ensures)
