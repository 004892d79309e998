use Rattle.std.proofs.Common.{List, Option, Some, None, Bor, refl, sym, ap, subst, ◌∙◌}
use Rattle.std.specs.Option.{option_copied, option_map}
use Rattle.nodes_world.specs.Told.{Told}
use Rattle.nodes_state.specs.Seated.{node_of, seat_of}
use Rattle.nodes_state.specs.Shown.{shown}
use Rattle.nodes_state.specs.Telling.{Tells, TellsSome}
use Rattle.nodes_state.specs.declared.seats.Seat.{Seat}
use Rattle.nodes_state.proofs.Doing.{none_told}
use Rattle.nodes_seats.proofs.Changing.{read_at, seat_shown}
use Rattle.nodes_seats.proofs.Standings.{up_there}
use Rattle.nodes_seats.proofs.standing.tell_up_at.Goals as goal

pub returns-in-Some-node : goal.returns-in-Some-node
returns-in-Some-node c =
    let there = read_at _ _ _ _ c.deref.ensures.value c.get.ensures.lookup.3 ∙ ap (λ (o : Option (Bor Seat)). option_copied o) c.in-Some.is in
    let up = sym c.node.ensures ∙ ap (λ o. option_map node_of (option_copied o)) c.in-Some-node.is in
    subst (λ (some : List Told). TellsSome some c.args.lines.now.items c.tell_up.new.lines.items c.tell_up.result)
    (sym (up_there (shown c.args.state.now) c.args.place (seat_of c.in-Some.seat.now) (Some c.in-Some-node.node.now.node)
    (seat_shown c.args.state.now c.args.place (Some c.in-Some.seat.now) there) up))
    (c.tell_up.ensures (shown c.args.state.now) c.requires.names)

pub returns-in-None : goal.returns-in-None
returns-in-None c =
    let there = read_at _ _ _ _ c.deref.ensures.value c.get.ensures.lookup.3 ∙ ap (λ (o : Option (Bor Seat)). option_copied o) c.in-Some.is in
    let none = sym c.node.ensures ∙ ap (λ o. option_map node_of (option_copied o)) c.in-None.is in
    subst (λ (some : List Told). Tells some c.args.lines.now.items c.args.lines.now.items)
    (sym (up_there (shown c.args.state.now) c.args.place (seat_of c.in-Some.seat.now) None
    (seat_shown c.args.state.now c.args.place (Some c.in-Some.seat.now) there) none))
    (none_told c.args.lines.now.items c.args.lines.now.items refl)
