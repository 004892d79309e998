use Rattle.std.proofs.Common.{◌∙◌, Some, None, Bor, ap, sym}
use Rattle.resource_end.specs.declared.kept.Kept.{Kept}
use Rattle.std.specs.Option.{option_map}
use Rattle.resource_end.specs.End.{Resource}
use Rattle.resource_end.specs.Inside.{is_other_holder, resource_at}
use Rattle.resource_end.proofs.Named.{holds_not, holds_other, is_itself}
use Rattle.resource_end.proofs.Numbered.{it_fails, it_passes, passes_by}
use Rattle.resource_end.proofs.kept.Resources.holder_at.Goals as goal

pub returns-in-Some : goal.returns-in-Some
returns-in-Some c =
    ap (option_map (λ (r : Resource). r.number))
    (sym (passes_by (is_other_holder c.args.id c.args.cell) c.args.holder c.self.inside.map.entries c.args.self.now c.self.view_is (Some c.in-Some.kept.now) c.in-Some.ensures.value
    ∙ it_passes (is_other_holder c.args.id c.args.cell) (resource_at c.args.holder c.in-Some.kept.now)
    (holds_other c.args.id c.args.cell (resource_at c.args.holder c.in-Some.kept.now) (sym c.if-not-is_same.ensures) (sym (c.if-holds_cell.ensures c.args.holder)))))

pub returns-in_default : goal.returns-in_default
returns-in_default c =
    ap (option_map (λ (r : Resource). r.number))
    (sym (passes_by (is_other_holder c.args.id c.args.cell) c.args.holder c.self.inside.map.entries c.args.self.now c.self.view_is (Some c.in-Some.kept.now) c.in-Some.ensures.value
    ∙ it_fails (is_other_holder c.args.id c.args.cell) (resource_at c.args.holder c.in-Some.kept.now)
    (holds_not c.args.id c.args.cell (resource_at c.args.holder c.in-Some.kept.now) (sym (c.if-holds_cell.ensures c.args.holder)))))

pub returns-in_default-2 : goal.returns-in_default-2
returns-in_default-2 c =
    ap (option_map (λ (r : Resource). r.number))
    (sym (passes_by (is_other_holder c.args.id c.args.cell) c.args.holder c.self.inside.map.entries c.args.self.now c.self.view_is (Some c.in-Some.kept.now) c.in-Some.ensures.value
    ∙ it_fails (is_other_holder c.args.id c.args.cell) (resource_at c.args.holder c.in-Some.kept.now)
    (is_itself c.args.id c.args.cell (resource_at c.args.holder c.in-Some.kept.now) (sym c.if-not-is_same.ensures))))

pub returns-in_default-3 : goal.returns-in_default-3
returns-in_default-3 c =
    ap (option_map (λ (r : Resource). r.number))
    (sym (passes_by (is_other_holder c.args.id c.args.cell) c.args.holder c.self.inside.map.entries c.args.self.now c.self.view_is None
    (sym (ap (λ o. option_map (λ (x : Bor Kept). x.now) o) c.in_default.is) ∙ c.get.ensures.value)))
