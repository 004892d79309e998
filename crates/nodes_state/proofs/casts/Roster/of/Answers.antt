use Rattle.nodes_world.specs.Happenings.{cast_of}
use Rattle.nodes_state.proofs.InOrder.{all_indexed}
use Rattle.nodes_state.proofs.casts.Roster.of.Goals as goal

pub returns : goal.returns
returns c = λ w names. record {
  indexed = all_indexed (cast_of c.args.family.now.family) c.in_order.ensures.registrations c.in_order.ensures.synchronizations;
  key = c.key.ensures.key;
  registered = c.in_ok-names_registered.ensures w names;
  synchronized = c.in_ok-names_synchronized.ensures w names;
}
