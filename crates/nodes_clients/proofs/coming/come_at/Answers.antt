use Rattle.std.proofs.Common.{ap, arith}
use Rattle.std.specs.Option.{option_map}
use Rattle.std.proofs.lemmas.Option.{slice_get-map}
use Rattle.std.proofs.Common.{◌∙◌, List}
use Rattle.nodes_world.specs.World.{Seat}
use Rattle.nodes_state.specs.Seated.{seat_of}
use Rattle.nodes_clients.proofs.Kept.{at_place, count_set, seats_kept, seats_set}
use Rattle.nodes_clients.proofs.Named.{names_keep}
use Rattle.nodes_clients.proofs.coming.come_at.Goals as goal

pub returns-clause-come : goal.returns-clause-come
returns-clause-come c =
    let s = c.args.state.now in
    let k = c.index_mut.result.now in
    let there = at_place s.seats.items c.args.place k (omega (arith, c.requires.there)) c.index_mut.ensures.value in
    record {
      before = seat_of k;
      there = slice_get-map seat_of s.seats.items c.args.place ∙ ap (λ o. option_map seat_of o) there;
      later = seat_of c.come_to.new.seat;
      come = c.in_ok-come_to.ensures.come;
      world = ap (λ (xs : List Seat). record { seats = xs; messages = s.messages; names = s.names.things }) (seats_set s.seats.items c.args.place c.come_to.new.seat);
    }

pub returns-clause-seats : goal.returns-clause-seats
returns-clause-seats c =
    let s = c.args.state.now in
    let k = c.index_mut.result.now in
    let there = at_place s.seats.items c.args.place k (omega (arith, c.requires.there)) c.index_mut.ensures.value in
    record {
      count = count_set s.seats.items c.args.place c.come_to.new.seat;
      each = seats_kept s.seats.items c.args.place k c.come_to.new.seat there c.in_ok-come_to.ensures.keeps;
    }

pub returns-clause-named : goal.returns-clause-named
returns-clause-named c =
    let s = c.args.state.now in
    let k = c.index_mut.result.now in
    let there = at_place s.seats.items c.args.place k (omega (arith, c.requires.there)) c.index_mut.ensures.value in
    names_keep s.names s.seats.items s.messages c.args.place k c.come_to.new.seat there c.in_ok-come_to.ensures.keeps.name c.requires.named
