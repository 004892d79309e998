use Rattle.std.proofs.Common.{◌∙◌, refl, ap, sym, subst}
use Rattle.std.proofs.lemmas.Bool.{both_ways}
use Rattle.resource_end.specs.End.{with_resource}
use Rattle.resource_end.specs.Inside.{AreHeld, fresh_one, holds_cell, resource_at}
use Rattle.resource_end.proofs.Claims.{either_way, held_with, on_ok}
use Rattle.resource_end.proofs.contents.Contents.add.Goals as goal

pub invariant_of-self : goal.invariant_of-self
invariant_of-self c =
    either_way c.insert.result _ _ (AreHeld c.self.inside.contested c.self.inside.cells c.insert.new.self) c.insert.ensures.ok c.insert.ensures.err
    (λ e. subst (AreHeld c.self.inside.contested c.self.inside.cells) (sym e)
    (held_with c.self.inside.contested c.self.inside.cells c.self.inside.resources (resource_at c.args.id c.fresh.result) c.self.invariant
    (λ cell h. absurd (both_ways _ refl (ap (holds_cell cell) (sym (c.fresh.ensures c.args.id)) ∙ h)))))
    (λ e. subst (AreHeld c.self.inside.contested c.self.inside.cells) (sym e) c.self.invariant)

pub returns-clause-ok : goal.returns-clause-ok
returns-clause-ok c =
    on_ok c.insert.result _ _ c.insert.ensures.ok (λ e.
    let rs = e ∙ ap (λ r. with_resource r c.self.inside.resources) (c.fresh.ensures c.args.id) ∙ ap (λ s. with_resource (fresh_one c.args.id c.args.letter) s.resources) c.self.view_is in
    (λ i. record { resources = rs i; cells = (c.self.view_is i).cells }))
