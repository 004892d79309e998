use Rattle.std.proofs.Common.{length, refl, sym, subst}
use Rattle.nodes_world.specs.declared.thing.Thing.TheVariants as things
use Rattle.nodes_state.specs.declared.seats.Seat.{Seat}
use Rattle.nodes_seats.specs.Whole.{IsServed}
use Rattle.nodes_seats.proofs.Growing.{whole_grows}
use Rattle.nodes_seats.proofs.places.add_seat.Goals as goal

pub returns-clause-whole : goal.returns-clause-whole
returns-clause-whole c =
    whole_grows c.args.state.now _ c.args.name.now c.new.result c.in_ok-push.ensures.items refl (cc (c.in_ok-name_seat.ensures.things, c.len-place.ensures)) c.requires.whole c.requires.room
    (subst (λ (k : Seat). IsServed (length c.args.state.now.seats.items) k.server) (sym c.new.ensures) c.requires.served) c.in_ok-name_seat.ensures.referred
