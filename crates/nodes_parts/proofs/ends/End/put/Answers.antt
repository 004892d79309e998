use Rattle.std.proofs.Common.{Some, sym, ap, subst, ◌∙◌, refl}
use Rattle.nodes_world.specs.Ends.{with_resource}
use Rattle.nodes_parts.specs.Kept.{end_of, flat, resource_numbered}
use Rattle.nodes_parts.specs.KeptInside.{IsKept}
use Rattle.nodes_parts.proofs.Ending.{kept_put, replaced_view, standing_at}
use Rattle.nodes_parts.proofs.ends.End.put.Goals as goal
use Rattle.resource_end.specs.declared.state.State.TheVariants as states

pub replace-requires-clause-number : goal.replace-requires-clause-number
replace-requires-clause-number c = (standing_at c.self.inside.objects.items c.args.resource.now.key.generation (flat c.args.resource.now) c.self.invariant.numbered
    (ap (resource_numbered c.args.resource.now.key.generation) c.self.view_is ∙ c.requires.there)).some

pub replace-requires-clause-there : goal.replace-requires-clause-there
replace-requires-clause-there c = (standing_at c.self.inside.objects.items c.args.resource.now.key.generation (flat c.args.resource.now) c.self.invariant.numbered
    (ap (resource_numbered c.args.resource.now.key.generation) c.self.view_is ∙ c.requires.there)).within

pub invariant_of-self-2 : goal.invariant_of-self-2
invariant_of-self-2 c =
    let stands = standing_at c.self.inside.objects.items c.args.resource.now.key.generation (flat c.args.resource.now) c.self.invariant.numbered
    (ap (resource_numbered c.args.resource.now.key.generation) c.self.view_is ∙ c.requires.there) in
    subst (λ xs. IsKept xs c.add.new.self) (sym c.replace.ensures)
    (kept_put c.self.inside.objects.items (record c.args.resource.now { state = states.Working; put = Some (record { cell = c.args.cell; value = c.args.value }) }) (flat c.args.resource.now) (record { cell = c.args.cell; value = c.args.value }) c.self.inside.cells c.add.new.self c.self.invariant stands c.requires.nothing refl c.in_ok-add.ensures.ok)

pub returns-clause-ok : goal.returns-clause-ok
returns-clause-ok c =
    let stands = standing_at c.self.inside.objects.items c.args.resource.now.key.generation (flat c.args.resource.now) c.self.invariant.numbered
    (ap (resource_numbered c.args.resource.now.key.generation) c.self.view_is ∙ c.requires.there) in
    ap end_of c.replace.ensures
    ∙ replaced_view c.self.inside.objects.items (record c.args.resource.now { state = states.Working; put = Some (record { cell = c.args.cell; value = c.args.value }) }) (flat c.args.resource.now) c.self.invariant.numbered stands
    ∙ ap (with_resource (flat (record c.args.resource.now { state = states.Working; put = Some (record { cell = c.args.cell; value = c.args.value }) }))) c.self.view_is
