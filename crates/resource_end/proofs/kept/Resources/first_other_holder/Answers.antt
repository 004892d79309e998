use Rattle.std.proofs.Common.{◌∙◌, ap, sym}
use Rattle.std.specs.Prelude.{is_some}
use Rattle.std.specs.Option.{option_map}
use Rattle.resource_end.specs.End.{Resource}
use Rattle.resource_end.specs.Inside.{if_passes, is_other_holder, numbered}
use Rattle.resource_end.proofs.Holders.{find_among, first_is, first_is_not, found_by_numbers}
use Rattle.resource_end.proofs.kept.Resources.first_other_holder.Goals as goal

pub loop-other-init : goal.loop-other-init
loop-other-init c =
    found_by_numbers c.args.id c.args.cell c.self.inside.map.entries c.args.self.now c.into_iter-other-iterator.result c.self.view_is c.self.invariant.0
    (c.into_iter-other-iterator.ensures.into_iter_gives.0 ∙ c.self.invariant.1)

pub loop-other-preserved : goal.loop-other-preserved
loop-other-preserved c =
    c.loop-other.invariant
    ∙ ap (find_among (is_other_holder c.args.id c.args.cell) c.args.self.now) c.in-Some.ensures.steps
    ∙ first_is_not (if_passes (is_other_holder c.args.id c.args.cell) (numbered c.in-Some.other.now c.args.self.now)) (find_among (is_other_holder c.args.id c.args.cell) c.args.self.now c.next.new.self)
    (ap is_some (sym c.holder_at-number.ensures) ∙ sym c.if-is_some.ensures)

pub returns-then-is_some : goal.returns-then-is_some
returns-then-is_some c =
    c.holder_at-number.ensures
    ∙ sym (first_is (if_passes (is_other_holder c.args.id c.args.cell) (numbered c.in-Some.other.now c.args.self.now)) (find_among (is_other_holder c.args.id c.args.cell) c.args.self.now c.next.new.self)
    (ap is_some (sym c.holder_at-number.ensures) ∙ sym c.if-is_some.ensures))
    ∙ ap (option_map (λ (r : Resource). r.number))
    (sym (c.loop-other.invariant ∙ ap (find_among (is_other_holder c.args.id c.args.cell) c.args.self.now) c.in-Some.ensures.steps))
