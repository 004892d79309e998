use Rattle.std.proofs.Common.{ℕ, Option, refl, ap, subst, arith}
use Rattle.std.specs.Vec.{with_item}
use Rattle.std.proofs.lemmas.Option.{slice_get_past}
use Rattle.nodes_world.specs.Ends.{drawn_once}
use Rattle.nodes_state.specs.declared.seats.Seat.{Seat as Kept}
use Rattle.nodes_calls.specs.Drawing.{HasDrawn}
use Rattle.nodes_calls.proofs.Drawn.{at_place, draws, draws_none, has_drawn, no_seat, nodes_stay, same_seat}
use Rattle.nodes_calls.proofs.objects.draw_object.Goals as goal

pub returns-then-at-len-clause-drawn : goal.returns-then-at-len-clause-drawn
returns-then-at-len-clause-drawn c =
    let s = c.args.state.now in
    (no_seat s c.args.place (slice_get_past s.seats.items c.args.place (omega (arith, c.if-at-len.true, c.len.ensures))), refl)

pub returns-in-Some-clause-drawn : goal.returns-in-Some-clause-drawn
returns-in-Some-clause-drawn c =
    let s = c.args.state.now in
    let place = c.args.place in
    let k = c.index_mut.result.now in
    let v = c.draw_in.new.server in
    let there = at_place s.seats.items place k (omega (arith, c.if-at-len.false, c.len.ensures)) c.index_mut.ensures.value in
    let read = at_place s.seats.items place c.index.result.now (omega (arith, c.if-at-len.false, c.len.ensures)) c.index.ensures in
    draws s (record s { seats = with_item s.seats place (record k { server = v }) }) place k v there refl refl refl c.args.manner c.in-Some.number
    (record { manner = c.args.manner; key = c.resource_key.result; end = c.index.result.now.name }) refl c.resource_key.ensures
    (ap (λ (x : Kept). x.name) (same_seat s.seats.items place c.index.result.now k read there))
    (subst (λ (o : Option ℕ). HasDrawn k.server v o) c.in-Some.is c.in_ok-number.ensures)

pub returns-in-Some-clause-nodes : goal.returns-in-Some-clause-nodes
returns-in-Some-clause-nodes c =
    let s = c.args.state.now in
    let place = c.args.place in
    let k = c.index_mut.result.now in
    let v = c.draw_in.new.server in
    let there = at_place s.seats.items place k (omega (arith, c.if-at-len.false, c.len.ensures)) c.index_mut.ensures.value in
    let new = record s { seats = with_item s.seats place (record k { server = v }) } in
    nodes_stay s new place k v there refl refl refl drawn_once
    (has_drawn s new place k v there refl refl refl c.in-Some.number (subst (λ (o : Option ℕ). HasDrawn k.server v o) c.in-Some.is c.in_ok-number.ensures))

pub returns-in-None-clause-drawn : goal.returns-in-None-clause-drawn
returns-in-None-clause-drawn c =
    let s = c.args.state.now in
    let place = c.args.place in
    let k = c.index_mut.result.now in
    let v = c.draw_in.new.server in
    let there = at_place s.seats.items place k (omega (arith, c.if-at-len.false, c.len.ensures)) c.index_mut.ensures.value in
    draws_none s (record s { seats = with_item s.seats place (record k { server = v }) }) place k v there refl refl refl c.args.manner
    (subst (λ (o : Option ℕ). HasDrawn k.server v o) c.in-None.is c.in_ok-number.ensures)
