use Rattle.std.proofs.Common.{Option, Some, None, Bor, sym, ap, ◌∙◌}
use Rattle.std.specs.Option.{option_copied}
use Rattle.nodes_state.specs.declared.seats.Seat.{Seat}
use Rattle.nodes_state.proofs.Reading.{clock_shown, read_at}
use Rattle.nodes_state.proofs.state.State.clock.Goals as goal

pub returns-in_err-get : goal.returns-in_err-get
returns-in_err-get c =
    let none = read_at _ _ _ _ c.deref.ensures.value c.get.ensures.lookup.3 ∙ ap (λ (o : Option (Bor Seat)). option_copied o) c.in_err-get.was in
    c.from_residual.ensures ∙ sym (clock_shown c.args.self.now c.args.place None none)

pub returns : goal.returns
returns c =
    let some = read_at _ _ _ _ c.deref.ensures.value c.get.ensures.lookup.3 ∙ ap (λ (o : Option (Bor Seat)). option_copied o) c.in_ok-get.was in
    sym (clock_shown c.args.self.now c.args.place (Some c.in_ok-get.field-0.now) some)
