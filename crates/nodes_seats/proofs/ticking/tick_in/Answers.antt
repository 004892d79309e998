use Rattle.std.proofs.Common.{refl, sym, ◌∙◌}
use Rattle.nodes_state.specs.declared.seats.Seat.{Seat}
use Rattle.nodes_state.specs.declared.seats.Server.TheVariants as servers
use Rattle.nodes_seats.specs.declared.ticking.Due.{Due}
use Rattle.nodes_seats.proofs.Ticks.{still_served, ticked_at}
use Rattle.nodes_seats.proofs.ticking.tick_in.Goals as goal

pub returns-in_ok-ticked-in-Up-clause-ticked : goal.returns-in_ok-ticked-in-Up-clause-ticked
returns-in_ok-ticked-in-Up-clause-ticked c =
    let t = c.in_ok-ticked-in-Up.ticked in
    let old : Seat = c.args.seat.now in
    let new : Seat = record old { clock = c.saturating_add-now.result; server = servers.Up t.node } in
    let due : Due = record { happened = t.happened; words = t.words } in
    ticked_at c.args.seconds c.saturating_add-now.result old new c.in-Up.node t due c.families_number_words.ensures c.kept.ensures.sound
    (sym c.replace.ensures.value ∙ c.in-Up.is) c.saturating_add-now.ensures c.in_ok-ticked-in-Up.ensures.ticked refl refl refl

pub returns-in_ok-ticked-in-Up-clause-served : goal.returns-in_ok-ticked-in-Up-clause-served
returns-in_ok-ticked-in-Up-clause-served c = λ place served.
    let t = c.in_ok-ticked-in-Up.ticked in
    still_served c.saturating_add-now.result place c.args.seat.now.server (servers.Up t.node) c.in-Up.node t
    (sym c.replace.ensures.value ∙ c.in-Up.is) refl c.in_ok-ticked-in-Up.ensures.ticked served
