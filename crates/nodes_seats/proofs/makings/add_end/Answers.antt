use Rattle.std.proofs.Common.{Some, ap, ◌∙◌}
use Rattle.ots_model.specs.declared.line.Line.TheVariants as lines
use Rattle.nodes_world.specs.Limits.{only_life}
use Rattle.nodes_world.specs.Lives.{makes_end, with_named_seat}
use Rattle.nodes_world.specs.Told.{Known}
use Rattle.nodes_world.specs.World.{FlatEnd, OfEnd}
use Rattle.nodes_state.specs.Shown.{shown}
use Rattle.nodes_seats.proofs.Telling.{one_told}
use Rattle.nodes_seats.proofs.makings.add_end.Goals as goal

pub returns-clause-does : goal.returns-clause-does
unfolding makes_end
returns-clause-does c = (
  c.in_ok-add_seat.ensures.world ∙ ap (λ (e : FlatEnd). with_named_seat c.args.name.now (OfEnd (Some e)) (shown c.args.state.now)) c.new.ensures,
  one_told (Known (lines.Up c.args.name.now only_life)) c.args.lines.now.items c.tell_known.new.lines.items c.in_ok-tell_known.ensures,
)
