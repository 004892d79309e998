use Rattle.std.proofs.Common.{◌∙◌, ap, sym, Ok, Err}
use Rattle.outward_calls.specs.Moment.{moment}
use Rattle.end_server.specs.Serving.{side}
use Rattle.end_server.proofs.Asking.{ticks_end}
use Rattle.ots_sessions.specs.declared.fault.ServeFault.TheVariants.{Memory}
use Rattle.end_server.proofs.ticking.tick_end.Goals as goal

pub returns-clause-ticked : goal.returns-clause-ticked
returns-clause-ticked g c =
    ticks_end g.E.Ends.does (g.E.Ends.place c.args.ends.now) (g.E.Ends.place c.asks-asked.new.self) c.asks-asked.ensures.stays
    c.args.ends.now c.asks-asked.new.self (moment (g.L.Link.faults c.args.link.now) (g.L.Link.exchanged c.args.link.now))
    c.new-out.result.words c.asks-asked.new.out.words (ap (λ o. o.words) c.new-out.ensures) c.asks-asked.result
    c.asks-asked.ensures.does c.ask_all-starved.result
    (side c.ask_all-starved.new.ends (moment (g.L.Link.faults c.ask_all-starved.new.link) (g.L.Link.exchanged c.ask_all-starved.new.link)))
    c.ask_all-starved.ensures.asked (Ok tt) (sym c.is_err.ensures.value ∙ c.if-is_err.false, c.if-starved.false)

pub returns-then-is_err-clause-ticked : goal.returns-then-is_err-clause-ticked
returns-then-is_err-clause-ticked g c =
    ticks_end g.E.Ends.does (g.E.Ends.place c.args.ends.now) (g.E.Ends.place c.asks-asked.new.self) c.asks-asked.ensures.stays
    c.args.ends.now c.asks-asked.new.self (moment (g.L.Link.faults c.args.link.now) (g.L.Link.exchanged c.args.link.now))
    c.new-out.result.words c.asks-asked.new.out.words (ap (λ o. o.words) c.new-out.ensures) c.asks-asked.result
    c.asks-asked.ensures.does c.ask_all-starved.result
    (side c.ask_all-starved.new.ends (moment (g.L.Link.faults c.ask_all-starved.new.link) (g.L.Link.exchanged c.ask_all-starved.new.link)))
    c.ask_all-starved.ensures.asked (Err Memory) tt
