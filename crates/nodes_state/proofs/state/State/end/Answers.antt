use Rattle.std.proofs.Common.{Option, Bor, sym, ap, ◌∙◌}
use Rattle.std.specs.Option.{option_copied}
use Rattle.nodes_state.specs.declared.seats.Seat.{Seat}
use Rattle.nodes_state.proofs.Reading.{end_there, no_end, read_at}
use Rattle.nodes_state.proofs.state.State.end.Goals as goal

pub returns-in_err-get : goal.returns-in_err-get
returns-in_err-get c =
    let none = read_at _ _ _ _ c.deref.ensures.value c.get.ensures.lookup.3 ∙ ap (λ (o : Option (Bor Seat)). option_copied o) c.in_err-get.was in
    ap (λ o. option_copied o) c.from_residual.ensures ∙ sym (no_end c.args.self.now c.args.place none)

pub returns : goal.returns
returns c =
    let some = read_at _ _ _ _ c.deref.ensures.value c.get.ensures.lookup.3 ∙ ap (λ (o : Option (Bor Seat)). option_copied o) c.in_ok-get.was in
    c.end.ensures ∙ sym (end_there c.args.self.now c.args.place c.in_ok-get.field-0.now some)
