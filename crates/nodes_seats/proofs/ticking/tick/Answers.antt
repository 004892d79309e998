use Rattle.std.proofs.Common.{List, Option, Some, None, Ok, refl, sym, subst, arith}
use Rattle.std.specs.Vec.{with_item}
use Rattle.service_node.specs.declared.passing.Happening.{Happening}
use Rattle.nodes_world.specs.Happenings.{Done}
use Rattle.nodes_state.specs.Does.{Does}
use Rattle.nodes_state.specs.Seated.{seat_of}
use Rattle.nodes_state.specs.Shown.{shown}
use Rattle.nodes_state.specs.declared.seats.Seat.{Seat}
use Rattle.nodes_state.specs.declared.state.State.{State}
use Rattle.nodes_state.proofs.Doing.{does_nothing}
use Rattle.nodes_seats.specs.Ticking.{HasTickedIn, IsDueOf}
use Rattle.nodes_seats.specs.Whole.{IsWhole}
use Rattle.nodes_seats.specs.declared.ticking.Due.{Due}
use Rattle.nodes_seats.proofs.Changing.{at_place, past_places}
use Rattle.nodes_seats.proofs.Ticked.{tick_clock, tick_does, tick_whole}
use Rattle.nodes_seats.proofs.Ticks.{on_ok, ticks_none, whole_stays}
use Rattle.nodes_seats.proofs.ticking.tick.Goals as goal

pub returns-then-place-len-clause-does : goal.returns-then-place-len-clause-does
returns-then-place-len-clause-does c =
    let w = shown c.args.state.now in
    let lines = c.args.lines.now.items in
    let none = past_places c.args.state.now c.args.place (omega (arith, c.if-place-len.true, c.len.ensures)) in
    subst (λ (d : Done). Does d w lines lines (Ok tt)) (sym (ticks_none c.args.place c.args.seconds w none)) (does_nothing w lines)

pub tell_due-requires : goal.tell_due-requires
tell_due-requires c =
    let s = c.args.state.now in
    let k : Seat = c.index_mut.result.now in
    let x : Seat = c.tick_in.new.seat in
    let there = at_place s.seats.items c.args.place k (omega (arith, c.if-place-len.false, c.len.ensures)) c.index_mut.ensures.value in
    let new : State = record s { seats = with_item s.seats c.args.place x } in
    let h = subst (λ (o : Option Due). HasTickedIn c.args.seconds (seat_of k) (seat_of x) o) c.in-Some.is c.in_ok-due.ensures.ticked in
    let whole = tick_whole s new c.args.place c.args.seconds k x there refl refl refl (Some c.in-Some.due) h
    (c.in_ok-due.ensures.served c.args.place (c.requires.whole.served c.args.place k there)) c.requires.whole in
    record { names = whole.names }

pub returns-in-Some-clause-does : goal.returns-in-Some-clause-does
returns-in-Some-clause-does c =
    let s = c.args.state.now in
    let k : Seat = c.index_mut.result.now in
    let x : Seat = c.tick_in.new.seat in
    let there = at_place s.seats.items c.args.place k (omega (arith, c.if-place-len.false, c.len.ensures)) c.index_mut.ensures.value in
    let new : State = record s { seats = with_item s.seats c.args.place x } in
    let h = subst (λ (o : Option Due). HasTickedIn c.args.seconds (seat_of k) (seat_of x) o) c.in-Some.is c.in_ok-due.ensures.ticked in
    tick_does s new c.args.place c.args.seconds k x there refl refl refl c.in-Some.due h (shown c.tell_due.new.state) c.args.lines.now.items
    c.tell_due.new.lines.items c.tell_due.result
    (λ t up due. c.tell_due.ensures.does t up (subst (λ (xs : List Happening). IsDueOf t xs c.in-Some.due.words.words) (sym c.items.ensures.same) due))

pub returns-in-Some-clause-whole : goal.returns-in-Some-clause-whole
returns-in-Some-clause-whole c =
    let s = c.args.state.now in
    let k : Seat = c.index_mut.result.now in
    let x : Seat = c.tick_in.new.seat in
    let there = at_place s.seats.items c.args.place k (omega (arith, c.if-place-len.false, c.len.ensures)) c.index_mut.ensures.value in
    let new : State = record s { seats = with_item s.seats c.args.place x } in
    let h = subst (λ (o : Option Due). HasTickedIn c.args.seconds (seat_of k) (seat_of x) o) c.in-Some.is c.in_ok-due.ensures.ticked in
    let whole = tick_whole s new c.args.place c.args.seconds k x there refl refl refl (Some c.in-Some.due) h
    (c.in_ok-due.ensures.served c.args.place (c.requires.whole.served c.args.place k there)) c.requires.whole in
    on_ok c.tell_due.result (IsWhole c.tell_due.new.state) (whole_stays new c.tell_due.new.state c.tell_due.ensures.same whole)

pub returns-in-None-clause-does : goal.returns-in-None-clause-does
returns-in-None-clause-does c =
    let s = c.args.state.now in
    let k : Seat = c.index_mut.result.now in
    let x : Seat = c.tick_in.new.seat in
    let there = at_place s.seats.items c.args.place k (omega (arith, c.if-place-len.false, c.len.ensures)) c.index_mut.ensures.value in
    let new : State = record s { seats = with_item s.seats c.args.place x } in
    let h = subst (λ (o : Option Due). HasTickedIn c.args.seconds (seat_of k) (seat_of x) o) c.in-None.is c.in_ok-due.ensures.ticked in
    tick_clock s new c.args.place c.args.seconds k x there refl refl refl h c.args.lines.now.items

pub returns-in-None-clause-whole : goal.returns-in-None-clause-whole
returns-in-None-clause-whole c =
    let s = c.args.state.now in
    let k : Seat = c.index_mut.result.now in
    let x : Seat = c.tick_in.new.seat in
    let there = at_place s.seats.items c.args.place k (omega (arith, c.if-place-len.false, c.len.ensures)) c.index_mut.ensures.value in
    let new : State = record s { seats = with_item s.seats c.args.place x } in
    let h = subst (λ (o : Option Due). HasTickedIn c.args.seconds (seat_of k) (seat_of x) o) c.in-None.is c.in_ok-due.ensures.ticked in
    tick_whole s new c.args.place c.args.seconds k x there refl refl refl None h
    (c.in_ok-due.ensures.served c.args.place (c.requires.whole.served c.args.place k there)) c.requires.whole
