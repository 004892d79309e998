use Rattle.std.proofs.Common.{◌≡◌, ◌<◌, ◌≤◌, List, get_or, length, sym, subst}
use Rattle.nodes_world.specs.Lives.{last_lines}
use Rattle.nodes_world.specs.Told.{Told}
use Rattle.nodes_state.specs.Shown.{shown}
use Rattle.nodes_state.specs.declared.seats.Seat.{Seat}
use Rattle.nodes_state.proofs.Failing.{some_failed}
use Rattle.nodes_state.proofs.Progress.{IsTelling, telling_breaks, telling_ends}
use Rattle.nodes_endings.proofs.Going.{is_failed, none_left, none_of_seat, seat_told}
use Rattle.nodes_endings.proofs.journals.tell_journals.Goals as goal

pub returns-in_err-tell_seat-clause-told : goal.returns-in_err-tell_seat-clause-told
returns-in_err-tell_seat-clause-told c =
    some_failed (last_lines (shown c.args.state.now)) c.args.lines.now.items c.tell_seat.new.lines.items c.from_residual.result
    c.from_residual.ensures.0 (telling_breaks _ _ _ _ _ c.loop-place.invariant c.in_err-tell_seat.ensures.told)

pub returns-in_err-tell_seat-clause-memory : goal.returns-in_err-tell_seat-clause-memory
returns-in_err-tell_seat-clause-memory c =
    let same = c.deref-seat-items.ensures.value in
    is_failed c.from_residual.result c.from_residual.ensures.0
    (λ none. c.in_err-tell_seat.ensures.memory
    (none_of_seat c.args.state.now.seats.items c.loop-place.place c.seat-item.result
    (subst (λ (xs : List Seat). c.loop-place.place < length xs) same c.loop-place-test.true)
    (subst (λ (xs : List Seat). get_or xs c.loop-place.place c.seat-item.result ≡ c.seat-item.result) same (sym c.seat-item.is)) none))

pub loop-place-preserved : goal.loop-place-preserved
loop-place-preserved c =
    let same = c.deref-seat-items.ensures.value in
    seat_told c.args.state.now.seats.items c.loop-place.place c.seat-item.result (last_lines (shown c.args.state.now)) c.args.lines.now.items c.loop-place.lines.items
    c.tell_seat.new.lines.items (subst (λ (xs : List Seat). c.loop-place.place < length xs) same c.loop-place-test.true)
    (subst (λ (xs : List Seat). get_or xs c.loop-place.place c.seat-item.result ≡ c.seat-item.result) same (sym c.seat-item.is))
    c.loop-place.invariant c.in_ok-tell_seat.ensures.told

pub returns-clause-told : goal.returns-clause-told
returns-clause-told c =
    telling_ends (last_lines (shown c.args.state.now)) c.args.lines.now.items c.loop-place.lines.items
    (subst (λ (some : List Told). IsTelling (last_lines (shown c.args.state.now)) c.args.lines.now.items some c.loop-place.lines.items)
    (none_left c.args.state.now.seats.items c.loop-place.place
    (subst (λ (xs : List Seat). length xs ≤ c.loop-place.place) c.deref-seat-items.ensures.value c.loop-place-test.false)) c.loop-place.invariant)
