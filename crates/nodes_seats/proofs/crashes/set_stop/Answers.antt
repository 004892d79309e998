use Rattle.std.proofs.Common.{Some, refl, subst, sym, ap, ◌∙◌, arith}
use Rattle.std.specs.Vec.{with_item}
use Rattle.nodes_lives.specs.Calling.{stop_of}
use Rattle.nodes_state.specs.Seated.{seat_of}
use Rattle.nodes_state.specs.Shown.{shown}
use Rattle.nodes_state.specs.declared.seats.Seat.{Seat}
use Rattle.nodes_state.specs.declared.state.State.{State}
use Rattle.nodes_world.specs.World.{with_seat}
use Rattle.nodes_seats.specs.Whole.{IsServed}
use Rattle.nodes_seats.proofs.Changing.{at_place, past_places, seat_shown, whole_changes, world_changes}
use Rattle.nodes_seats.proofs.Crashing.{no_stop_set, stop_set}
use Rattle.nodes_seats.proofs.crashes.set_stop.Goals as goal

pub returns-then-place-len-clause-does : goal.returns-then-place-len-clause-does
returns-then-place-len-clause-does c =
    let s = c.args.state.now in
    let k : Seat = c.index_mut.result.now in
    let x : Seat = c.set_stop_in.new.seat in
    let there = at_place s.seats.items c.args.place k (omega (arith, c.if-place-len.true, c.len.ensures)) c.index_mut.ensures.value in
    let new : State = record s { seats = with_item s.seats c.args.place x } in
    stop_set c.args.place (stop_of c.args.stop) (shown s) (shown new) (seat_of k) (seat_shown s c.args.place (Some k) there)
    (world_changes s new c.args.place k x there refl refl refl ∙ ap (λ (y : Seat). with_seat c.args.place (seat_of y) (shown s)) c.set_stop_in.ensures)

pub returns-then-place-len-clause-whole : goal.returns-then-place-len-clause-whole
returns-then-place-len-clause-whole c =
    let s = c.args.state.now in
    let k : Seat = c.index_mut.result.now in
    let x : Seat = c.set_stop_in.new.seat in
    let there = at_place s.seats.items c.args.place k (omega (arith, c.if-place-len.true, c.len.ensures)) c.index_mut.ensures.value in
    let new : State = record s { seats = with_item s.seats c.args.place x } in
    whole_changes s new c.args.place k x there refl refl refl c.requires.whole (ap (λ (y : Seat). y.name) c.set_stop_in.ensures)
    (subst (λ (y : Seat). IsServed c.args.place y.server) (sym c.set_stop_in.ensures) (c.requires.whole.served c.args.place k there))

pub returns-else-place-len-clause-does : goal.returns-else-place-len-clause-does
returns-else-place-len-clause-does c =
    no_stop_set c.args.place (stop_of c.args.stop) (shown c.args.state.now) (past_places c.args.state.now c.args.place (omega (arith, c.if-place-len.false, c.len.ensures)))
