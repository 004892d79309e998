use Rattle.std.proofs.Common.{Some, arith}
use Rattle.nodes_state.specs.Seated.{seat_of}
use Rattle.nodes_state.specs.Shown.{shown}
use Rattle.nodes_state.specs.declared.seats.Seat.{Seat}
use Rattle.nodes_seats.proofs.Changing.{at_place, past_places, seat_shown}
use Rattle.nodes_seats.proofs.Crashing.{gone_down, none_goes_down}
use Rattle.nodes_seats.proofs.crashes.go_down.Goals as goal

pub returns-in_ok-tell_down-clause-does : goal.returns-in_ok-tell_down-clause-does
returns-in_ok-tell_down-clause-does c =
    let s = c.args.state.now in
    let k : Seat = c.index.result.now in
    let there = at_place s.seats.items c.args.place k (omega (arith, c.if-place-len.true, c.len.ensures)) c.index.ensures in
    gone_down c.args.place c.args.image.items (shown s) (shown c.set_server.new.state) (seat_of k) c.args.lines.now.items c.tell_down.new.lines.items
    (seat_shown s c.args.place (Some k) there) c.set_server.ensures.world c.in_ok-tell_down.ensures

pub returns-else-place-len-clause-does : goal.returns-else-place-len-clause-does
returns-else-place-len-clause-does c =
    none_goes_down c.args.place c.args.image.items (shown c.args.state.now) c.args.lines.now.items
    (past_places c.args.state.now c.args.place (omega (arith, c.if-place-len.false, c.len.ensures)))
