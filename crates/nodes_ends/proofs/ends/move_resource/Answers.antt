use Rattle.std.proofs.Common.{refl, sym}
use Rattle.ots_model.specs.declared.line.Line.TheVariants as lines
use Rattle.nodes_parts.specs.Kept.{flat}
use Rattle.nodes_parts.specs.Referring.{named}
use Rattle.nodes_world.specs.Ends.{with_resource}
use Rattle.nodes_world.specs.Told.{Known}
use Rattle.nodes_state.specs.Shown.{shown}
use Rattle.nodes_state.proofs.Doing.{one_told}
use Rattle.nodes_ends.proofs.EndChanged.{end_keeps}
use Rattle.nodes_ends.proofs.Obeying.{has_at, moved_shown, moved_unshown, world_changed}
use Rattle.nodes_ends.proofs.ends.move_resource.Goals as goal

pub set_state_at-requires : goal.set_state_at-requires
set_state_at-requires c = record { there = has_at c.args.state.now c.args.named.key c.place_of.result (flat c.args.resource) c.place_of.ensures c.requires.there }

pub returns-in_ok-tell_known-in-Some-clause-does : goal.returns-in_ok-tell_known-in-Some-clause-does
returns-in_ok-tell_known-in-Some-clause-does c =
    moved_shown (named c.args.named) (flat c.args.resource) c.args.stage (shown c.args.state.now) (shown (record c.args.state.now { seats = c.set_state_at.new.seats }))
    c.args.lines.now.items c.tell_known.new.lines.items c.in-Some.shown (sym c.in-Some.ensures)
    (world_changed c.args.state.now c.set_state_at.new.seats.items c.place_of.result c.args.named.key (with_resource (record (flat c.args.resource) { state = c.args.stage })) c.place_of.ensures c.set_state_at.ensures)
    (one_told (Known (lines.State c.args.named.name c.in-Some.shown)) c.args.lines.now.items c.tell_known.new.lines.items c.in_ok-tell_known-in-Some.ensures)

pub returns-in_ok-tell_known-in-Some-clause-nodes : goal.returns-in_ok-tell_known-in-Some-clause-nodes
returns-in_ok-tell_known-in-Some-clause-nodes c =
    end_keeps c.args.state.now (record c.args.state.now { seats = c.set_state_at.new.seats }) c.place_of.result (with_resource (record (flat c.args.resource) { state = c.args.stage })) refl c.set_state_at.ensures

pub returns-in-None-clause-does : goal.returns-in-None-clause-does
returns-in-None-clause-does c =
    moved_unshown (named c.args.named) (flat c.args.resource) c.args.stage (shown c.args.state.now) (shown (record c.args.state.now { seats = c.set_state_at.new.seats }))
    c.args.lines.now.items c.args.lines.now.items (sym c.in-None.ensures)
    (world_changed c.args.state.now c.set_state_at.new.seats.items c.place_of.result c.args.named.key (with_resource (record (flat c.args.resource) { state = c.args.stage })) c.place_of.ensures c.set_state_at.ensures)
    refl

pub returns-in-None-clause-nodes : goal.returns-in-None-clause-nodes
returns-in-None-clause-nodes c =
    end_keeps c.args.state.now (record c.args.state.now { seats = c.set_state_at.new.seats }) c.place_of.result (with_resource (record (flat c.args.resource) { state = c.args.stage })) refl c.set_state_at.ensures
