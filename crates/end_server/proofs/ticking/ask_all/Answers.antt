use Rattle.std.proofs.Common.{◌≡◌, ◌∙◌, ◌||◌, ap, sym, subst, arith, refl, Bool}
use Rattle.outward_calls.specs.Moment.{moment}
use Rattle.end_server.specs.Serving.{EndSide, side}
use Rattle.end_server.specs.Ticking.{HaveAskedSo}
use Rattle.end_server.proofs.Asking.{asks_first, asks_next}
use Rattle.end_server.proofs.ticking.ask_all.Goals as goal
use Rattle.end_server.proofs.ticking.ask_all.Goals.{then-starved, else-starved}

pub loop-init : goal.loop-init
loop-init g c = record {
  asked = asks_first g.E.Ends.does (g.E.Ends.place c.args.ends.now) c.args.out.now.words
      (side c.args.ends.now (moment (g.L.Link.faults c.args.link.now) (g.L.Link.exchanged c.args.link.now)));
  stays = refl;
  later = omega (arith);
}

pub loop-preserved : goal.loop-preserved
loop-preserved g c =
    let before : EndSide g.row.E.Denot = side c.args.ends.now (moment (g.L.Link.faults c.args.link.now) (g.L.Link.exchanged c.args.link.now)) in
    let midway : EndSide g.row.E.Denot = side c.loop.ends (moment (g.L.Link.faults c.loop.link) (g.L.Link.exchanged c.loop.link)) in
    let after : EndSide g.row.E.Denot =
    side c.ask-wanted.new.ends (moment (g.L.Link.faults c.ask-wanted.new.link) (g.L.Link.exchanged c.ask-wanted.new.link)) in
    let starved : c.if-starved.starved ≡ (c.loop.starved || c.ask-wanted.result) = elim c.if-starved.branch [
      | then-starved w ↦ w.starved-is ∙ w.if-starved.true ∙ ap (λ (b : Bool). b || c.ask-wanted.result) (sym w.if-starved.true)
      | else-starved w ↦ w.starved-is ∙ ap (λ (b : Bool). b || c.ask-wanted.result) (sym w.if-starved.false)
    ] in
    record {
      asked = subst (λ rest. HaveAskedSo g.E.Ends.does (g.E.Ends.place c.args.ends.now) c.args.out.now.words before c.if-starved.starved rest after)
          (ap (λ o. o.words) (sym c.take.ensures.rest))
          (asks_next g.E.Ends.does (g.E.Ends.place c.args.ends.now) c.args.out.now.words before (g.E.Ends.place c.loop.ends) c.loop.invariant.stays
          c.loop.starved c.ask-wanted.result c.if-starved.starved c.loop.out.words c.in-Some-take.word c.ask-wanted.ensures.asked.0
          midway after c.loop.invariant.asked (sym c.in-Some-take.ensures.first) c.ask-wanted.ensures.asked.1 c.ask-wanted.ensures.asked.2 starved);
      stays = c.ask-wanted.ensures.stays ∙ c.loop.invariant.stays;
      later = omega (arith, c.loop.invariant.later, c.ask-wanted.ensures.later);
    }
