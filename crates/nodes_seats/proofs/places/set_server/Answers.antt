use Rattle.std.proofs.Common.{Option, Some, None, Bor, refl, sym, ap, ◌∙◌}
use Rattle.std.specs.Option.{option_copied}
use Rattle.std.specs.Vec.{with_item}
use Rattle.nodes_state.specs.Seated.{disk_of, seat_of, server_of}
use Rattle.nodes_state.specs.Shown.{shown}
use Rattle.nodes_state.specs.declared.seats.Seat.{Seat}
use Rattle.nodes_state.specs.declared.state.State.{State}
use Rattle.nodes_seats.proofs.Changing.{read_at, seat_shown, server_there, whole_changes, world_changes}
use Rattle.nodes_seats.proofs.places.set_server.Goals as goal

pub returns-clause-world : goal.returns-clause-world
returns-clause-world c =
    let there = read_at _ _ _ _ c.deref.ensures.value c.get.ensures.lookup.3 ∙ ap (λ (o : Option (Bor Seat)). option_copied o) c.in-Some.is in
    let s : Seat = c.in-Some.seat.now in
    let x : Seat = record { name = s.name; clock = s.clock; stop = None; server = c.args.server } in
    let new : State = record c.args.state.now { seats = with_item c.args.state.now.seats c.args.place x } in
    world_changes c.args.state.now new c.args.place s x there refl refl refl
    ∙ sym (server_there c.args.place (server_of c.args.server) (disk_of c.args.server) None (shown c.args.state.now) (seat_of s) (seat_shown c.args.state.now c.args.place (Some s) there))

pub returns-clause-whole : goal.returns-clause-whole
returns-clause-whole c =
    let there = read_at _ _ _ _ c.deref.ensures.value c.get.ensures.lookup.3 ∙ ap (λ (o : Option (Bor Seat)). option_copied o) c.in-Some.is in
    let s : Seat = c.in-Some.seat.now in
    let x : Seat = record { name = s.name; clock = s.clock; stop = None; server = c.args.server } in
    let new : State = record c.args.state.now { seats = with_item c.args.state.now.seats c.args.place x } in
    whole_changes c.args.state.now new c.args.place s x there refl refl refl c.requires.whole refl c.requires.served
