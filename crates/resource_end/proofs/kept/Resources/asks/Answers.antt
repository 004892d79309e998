use Rattle.std.proofs.Common.{◌∙◌, refl, ap, sym, subst}
use Rattle.resource_end.specs.Asking.{HasFrontOf}
use Rattle.resource_end.specs.Inside.{asks_by, asks_of, numbered}
use Rattle.resource_end.proofs.Asked.{asked_all, asked_first, asked_front, asked_one, asks_among, by_numbers}
use Rattle.resource_end.proofs.kept.Resources.asks.Goals as goal

pub loop-id-init : goal.loop-id-init
loop-id-init c = (
  asked_first c.args.out.now.words (asks_of c.args.self.now) (asks_among c.args.self.now c.into_iter-id-iterator.result)
      (by_numbers c.self.inside.map.entries c.args.self.now c.into_iter-id-iterator.result c.self.view_is c.self.invariant.0
      (c.into_iter-id-iterator.ensures.into_iter_gives.0 ∙ c.self.invariant.1)),
  refl,
)

pub loop-id-preserved : goal.loop-id-preserved
loop-id-preserved c = (
  asked_one c.args.out.now.words c.loop-id.out.words c.ask.new.out.words (asks_of c.args.self.now) (asks_among c.args.self.now c.loop-id.id-iterator)
      (asks_by (numbered c.in-Some.id.now c.args.self.now)) (asks_among c.args.self.now c.next.new.self) (ap (asks_among c.args.self.now) c.in-Some.ensures.steps)
      (ap (λ o. o.words) c.in-Ok.ensures.ok) c.loop-id.invariant.0,
  ap (λ o. o.room) c.in-Ok.ensures.ok ∙ c.loop-id.invariant.1,
)

pub returns-in-Err-clause-front : goal.returns-in-Err-clause-front
returns-in-Err-clause-front c =
    subst (λ o. HasFrontOf c.args.out.now.words (asks_of c.args.self.now) o.words) (sym c.in-Err.ensures.err)
    (asked_front c.args.out.now.words c.loop-id.out.words (asks_of c.args.self.now) (asks_among c.args.self.now c.loop-id.id-iterator) c.loop-id.invariant.0)

pub returns-clause-ok : goal.returns-clause-ok
returns-clause-ok c =
    asked_all c.args.out.now.words c.loop-id.out.words (asks_of c.args.self.now) (asks_among c.args.self.now c.loop-id.id-iterator)
    (ap (asks_among c.args.self.now) c.in-None.ensures.steps.0) c.loop-id.invariant.0

pub returns-clause-front : goal.returns-clause-front
returns-clause-front c = asked_front c.args.out.now.words c.loop-id.out.words (asks_of c.args.self.now) (asks_among c.args.self.now c.loop-id.id-iterator) c.loop-id.invariant.0
