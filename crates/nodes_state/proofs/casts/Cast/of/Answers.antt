use Rattle.nodes_state.specs.Telling.{IsIndexed}
use Rattle.nodes_world.specs.Happenings.{cast_of}
use Rattle.nodes_state.proofs.InOrder.{all_indexed}
use Rattle.nodes_state.proofs.Registered.{own_names}
use Rattle.nodes_state.proofs.casts.Cast.of.Goals as goal

pub returns : goal.returns
returns c =
    let indexed : IsIndexed (cast_of c.args.family.now.family) = all_indexed (cast_of c.args.family.now.family) c.in_order.ensures.registrations c.in_order.ensures.synchronizations in
    λ w. record {
      key = c.key.ensures.key;
      registered = λ number. own_names w c.args.family.now.family.ballots.registrations number indexed.registrations;
      synchronized = λ number. own_names w c.args.family.now.family.ballots.synchronizations number indexed.synchronizations;
    }
