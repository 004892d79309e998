use Rattle.std.proofs.Common.{◌∙◌, Some, None, Bor, ap, sym}
use Rattle.std.specs.Prelude.{is_some}
use Rattle.std.specs.Option.{option_map}
use Rattle.resource_end.specs.declared.kept.Kept.{Kept}
use Rattle.resource_end.specs.Recall.{is_recorded_at}
use Rattle.resource_end.specs.Inside.{resource_at}
use Rattle.resource_end.proofs.Counted.{it_is}
use Rattle.resource_end.proofs.Numbered.{find_by, it_fails, it_passes}
use Rattle.resource_end.proofs.Told.{alone_of, never_found}
use Rattle.resource_end.proofs.kept.Resources.recorded.Goals as goal

pub returns-in-None : goal.returns-in-None
returns-in-None c = never_found c.args.place c.args.id c.self.inside.map.entries c.args.self.now c.self.view_is c.self.invariant.0 c.in-None.is c.requires

pub returns-in-Some-get : goal.returns-in-Some-get
returns-in-Some-get c =
    let found = find_by (is_recorded_at c.args.place) c.in-Some.id c.self.inside.map.entries c.args.self.now c.self.view_is c.self.invariant.0
    (alone_of c.args.place c.args.id c.in-Some.id c.args.self.now c.in-Some.is c.requires) (Some c.in-Some-get.kept.now) c.in-Some-get.ensures.value
    ∙ it_passes (is_recorded_at c.args.place) (resource_at c.in-Some.id c.in-Some-get.kept.now) (sym (c.if-is_recorded_at.ensures c.in-Some.id)) in (
      found ∙ sym (it_is c.in-Some.id c.self.inside.map.entries c.args.self.now c.self.view_is c.self.invariant.0 c.in-Some-get.kept.now (sym c.in-Some-get.ensures.value)),
      ap is_some found,
    )

pub returns-in_default : goal.returns-in_default
returns-in_default c =
    find_by (is_recorded_at c.args.place) c.in-Some.id c.self.inside.map.entries c.args.self.now c.self.view_is c.self.invariant.0
    (alone_of c.args.place c.args.id c.in-Some.id c.args.self.now c.in-Some.is c.requires) (Some c.in-Some-get.kept.now) c.in-Some-get.ensures.value
    ∙ it_fails (is_recorded_at c.args.place) (resource_at c.in-Some.id c.in-Some-get.kept.now) (sym (c.if-is_recorded_at.ensures c.in-Some.id))

pub returns-in_default-2 : goal.returns-in_default-2
returns-in_default-2 c =
    find_by (is_recorded_at c.args.place) c.in-Some.id c.self.inside.map.entries c.args.self.now c.self.view_is c.self.invariant.0
    (alone_of c.args.place c.args.id c.in-Some.id c.args.self.now c.in-Some.is c.requires) None
    (sym (ap (λ o. option_map (λ (x : Bor Kept). x.now) o) c.in_default.is) ∙ c.get.ensures.value)
