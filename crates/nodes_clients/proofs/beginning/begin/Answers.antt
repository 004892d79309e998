use Rattle.std.proofs.Common.{◌≡◌, ℕ, ◌<◌, List, length, map, get_or, slice_get, slice_set, Option, Some, Result, Err, refl, sym, ap, subst, ◌∙◌, arith}
use Rattle.std.specs.Option.{option_map}
use Rattle.std.specs.Vec.{with_item}
use Rattle.std.proofs.lemmas.Option.{slice_get-map, slice_get_past, slice_get_read}
use Rattle.ior_refs.specs.declared.key.ObjectKey.{ObjectKey}
use Rattle.coordinator.specs.declared.node.NodeFault.{NodeFault}
use Rattle.coordinator.specs.declared.node.NodeFault.TheVariants as faults
use Rattle.nodes_world.specs.Clients.{begins}
use Rattle.nodes_world.specs.World.{Seat, World}
use Rattle.nodes_state.specs.Does.{Does}
use Rattle.nodes_state.specs.Seated.{seat_of}
use Rattle.nodes_state.specs.Shown.{shown}
use Rattle.nodes_state.specs.declared.seats.Seat.{Seat as Kept}
use Rattle.nodes_state.specs.declared.state.State.{State}
use Rattle.nodes_clients.specs.Beginning.{HasCreated, begun_named}
use Rattle.nodes_clients.specs.Keeping.{KeepsSeat, KeepsSeats}
use Rattle.nodes_clients.proofs.Begun.{begins_nowhere, begun_does, does_nothing, no_node_begins, shown_same}
use Rattle.nodes_clients.proofs.Kept.{count_set, keeps_on, on_ok, seats_kept}
use Rattle.nodes_clients.proofs.Named.{names_keep}
use Rattle.nodes_clients.proofs.beginning.begin.Goals as goal

same_seat : (xs : List Kept) (place : ℕ) (k x : Kept) → slice_get xs place ≡ Some k → slice_get xs place ≡ Some x → k ≡ x
same_seat xs place k x a b = cc

at_place : (xs : List Kept) (place : ℕ) (k : Kept) → place < length xs → k ≡ get_or xs place k → slice_get xs place ≡ Some k
at_place xs place k within has = slice_get_read xs (length xs) place k refl within has

pub returns-then-place-len-clause-does : goal.returns-then-place-len-clause-does
returns-then-place-len-clause-does c =
    let w = shown c.args.state.now in
    let none = slice_get-map seat_of c.args.state.now.seats.items c.args.place
    ∙ ap (λ o. option_map seat_of o) (slice_get_past c.args.state.now.seats.items c.args.place (omega (arith, c.if-place-len.true, c.len.ensures))) in
    does_nothing (begins c.args.place c.args.name.now c.args.seconds w) w w c.args.lines.now.items
    (begins_nowhere w c.args.place c.args.seconds c.args.name.now none) refl

pub begun_with-requires-clause-names : goal.begun_with-requires-clause-names
begun_with-requires-clause-names c =
    let s = c.args.state.now in
    names_keep s.names s.seats.items s.messages c.args.place c.index_mut.result.now c.create_in.new.seat
    (at_place s.seats.items c.args.place c.index_mut.result.now (omega (arith, c.if-place-len.false, c.len.ensures)) c.index_mut.ensures.value)
    (ap (λ (x : Seat). x.name) (subst (λ (o : Option (Result ObjectKey NodeFault)). HasCreated c.args.seconds (seat_of c.index_mut.result.now) (seat_of c.create_in.new.seat) o) c.in-Some.is c.in_ok-answer.ensures.created).later) c.requires.names

pub returns-in-Some-clause-does : goal.returns-in-Some-clause-does
returns-in-Some-clause-does c =
    let s = c.args.state.now in
    let k = c.index_mut.result.now in
    let there = at_place s.seats.items c.args.place k (omega (arith, c.if-place-len.false, c.len.ensures)) c.index_mut.ensures.value in
    let read = at_place s.seats.items c.args.place c.index.result.now (omega (arith, c.if-place-len.false, c.len.ensures)) c.index.ensures in
    let later : World = record { seats = map seat_of (slice_set s.seats.items c.args.place c.create_in.new.seat); messages = s.messages; names = s.names.things } in
    begun_does s.seats.items s.messages s.names.things c.args.place c.args.seconds c.args.name.now k c.create_in.new.seat c.in-Some.answer there
    (shown c.begun_with.new.state) c.args.lines.now.items c.begun_with.new.lines.items c.begun_with.result (subst (λ (o : Option (Result ObjectKey NodeFault)). HasCreated c.args.seconds (seat_of c.index_mut.result.now) (seat_of c.create_in.new.seat) o) c.in-Some.is c.in_ok-answer.ensures.created)
    (subst (λ (x : Kept). Does (begun_named c.args.name.now x.name c.in-Some.answer later) (shown c.begun_with.new.state) c.args.lines.now.items c.begun_with.new.lines.items
    c.begun_with.result) (same_seat s.seats.items c.args.place c.index.result.now k read there) c.begun_with.ensures.does)

pub returns-in-None-clause-does : goal.returns-in-None-clause-does
returns-in-None-clause-does c =
    let s = c.args.state.now in
    let k = c.index_mut.result.now in
    let there = at_place s.seats.items c.args.place k (omega (arith, c.if-place-len.false, c.len.ensures)) c.index_mut.ensures.value in
    does_nothing (begins c.args.place c.args.name.now c.args.seconds (shown s)) (shown s) _ c.args.lines.now.items
    (no_node_begins s.seats.items s.messages s.names.things c.args.place c.args.seconds c.args.name.now k c.create_in.new.seat (Err faults.Memory) there
    (subst (λ (o : Option (Result ObjectKey NodeFault)). HasCreated c.args.seconds (seat_of c.index_mut.result.now) (seat_of c.create_in.new.seat) o) c.in-None.is c.in_ok-answer.ensures.created).0)
    (ap (λ (ss : List Seat). record { seats = ss; messages = s.messages; names = s.names.things })
    (shown_same s.seats.items c.args.place k c.create_in.new.seat there (subst (λ (o : Option (Result ObjectKey NodeFault)). HasCreated c.args.seconds (seat_of c.index_mut.result.now) (seat_of c.create_in.new.seat) o) c.in-None.is c.in_ok-answer.ensures.created).1))

pub returns-in-None-clause-names : goal.returns-in-None-clause-names
returns-in-None-clause-names c =
    let s = c.args.state.now in
    names_keep s.names s.seats.items s.messages c.args.place c.index_mut.result.now c.create_in.new.seat
    (at_place s.seats.items c.args.place c.index_mut.result.now (omega (arith, c.if-place-len.false, c.len.ensures)) c.index_mut.ensures.value)
    (ap (λ (x : Seat). x.name) (subst (λ (o : Option (Result ObjectKey NodeFault)). HasCreated c.args.seconds (seat_of c.index_mut.result.now) (seat_of c.create_in.new.seat) o) c.in-None.is c.in_ok-answer.ensures.created).1) c.requires.names

set_keeps : (s t : State) (place : ℕ) (k x : Kept) → slice_get s.seats.items place ≡ Some k → t.seats.items ≡ slice_set s.seats.items place x → KeepsSeat k x → KeepsSeats s t
set_keeps s t place k x there is keeps = record {
  count = ap (λ (xs : List Kept). length xs) is ∙ count_set s.seats.items place x;
  each = λ i before after was now. seats_kept s.seats.items place k x there keeps i before after was (ap (λ (xs : List Kept). slice_get xs i) (sym is) ∙ now);
}

pub returns-in-Some-clause-seats : goal.returns-in-Some-clause-seats
returns-in-Some-clause-seats c =
    let s = c.args.state.now in
    let k = c.index_mut.result.now in
    let there = at_place s.seats.items c.args.place k (omega (arith, c.if-place-len.false, c.len.ensures)) c.index_mut.ensures.value in
    let set = record s { seats = with_item s.seats c.args.place c.create_in.new.seat } in
    on_ok c.begun_with.result _ (keeps_on s set c.begun_with.new.state
    (set_keeps s set c.args.place k c.create_in.new.seat there refl c.in_ok-answer.ensures.keeps) c.begun_with.ensures.seats)

pub returns-in-None-clause-seats : goal.returns-in-None-clause-seats
returns-in-None-clause-seats c =
    let s = c.args.state.now in
    let k = c.index_mut.result.now in
    let there = at_place s.seats.items c.args.place k (omega (arith, c.if-place-len.false, c.len.ensures)) c.index_mut.ensures.value in
    set_keeps s (record s { seats = with_item s.seats c.args.place c.create_in.new.seat }) c.args.place k c.create_in.new.seat there refl c.in_ok-answer.ensures.keeps
