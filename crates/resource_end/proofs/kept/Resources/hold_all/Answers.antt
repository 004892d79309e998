use Rattle.std.proofs.Common.{◌∙◌, refl, ap, sym, subst}
use Rattle.std.specs.Map.Iter.{deref_pair}
use Rattle.std.proofs.lemmas.Map.Iter.{btree_map_turn}
use Rattle.resource_end.specs.Inside.{resources_of}
use Rattle.resource_end.proofs.Counted.{it_is}
use Rattle.resource_end.proofs.Holding.{Held, held_first, held_last, held_more}
use Rattle.resource_end.proofs.Numbered.{id_total}
use Rattle.resource_end.proofs.kept.Resources.hold_all.Goals as goal

pub loop-id-init : goal.loop-id-init
loop-id-init c =
    (refl, held_first c.args.cells.now c.args.self.now c.into_iter-id-iterator.result (ap resources_of c.into_iter-id-iterator.ensures.into_iter_gives.0 ∙ c.self.view_is))

pub loop-id-preserved : goal.loop-id-preserved
loop-id-preserved c =
    let turn = btree_map_turn deref_pair c.loop-id.yielded c.into_iter-id-iterator.result c.loop-id.id-iterator c.next.new.self c.next.result (c.in-Some.id, c.in-Some.kept)
    c.loop-id.yielded_by c.in-Some.is c.next.ensures.steps id_total c.self.inside.map c.into_iter-id-iterator.ensures.into_iter_gives.0 c.self.invariant.0 in (
      c.hold_all.ensures.stored ∙ c.loop-id.invariant.0,
      subst (λ b. Held b c.hold_all.new.cells c.args.self.now c.next.new.self) (sym c.either-contested.ensures)
          (held_more c.loop-id.contested c.in-Ok.value c.loop-id.cells c.hold_all.new.cells c.args.self.now c.in-Some.id.now c.in-Some.kept.now c.next.new.self c.loop-id.id-iterator
          c.in-Some.ensures.steps
          (it_is c.in-Some.id.now c.self.inside.map.entries c.args.self.now c.self.view_is c.self.invariant.0 c.in-Some.kept.now turn.1)
          c.loop-id.invariant.1 c.in-Ok.ensures.held c.in-Ok.ensures.others),
    )

pub returns-clause-held : goal.returns-clause-held
returns-clause-held c = held_last c.loop-id.contested c.loop-id.cells c.args.self.now c.loop-id.id-iterator c.in-None.ensures.steps.0 c.loop-id.invariant.1
