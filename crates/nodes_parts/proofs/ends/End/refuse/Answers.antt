use Rattle.std.proofs.Common.{sym, ap, subst, ◌∙◌, refl}
use Rattle.nodes_world.specs.Ends.{with_resource}
use Rattle.nodes_parts.specs.Kept.{end_of, flat, resource_numbered}
use Rattle.nodes_parts.specs.KeptInside.{IsKept}
use Rattle.nodes_parts.proofs.Ending.{kept_replaced, replaced_view, standing_at}
use Rattle.nodes_parts.proofs.ends.End.refuse.Goals as goal
use Rattle.resource_end.specs.declared.state.State.TheVariants as states
use Rattle.std.proofs.Common.{true}

pub replace-requires-clause-number : goal.replace-requires-clause-number
replace-requires-clause-number c = (standing_at c.self.inside.objects.items c.args.resource.now.key.generation (flat c.args.resource.now) c.self.invariant.numbered
    (ap (resource_numbered c.args.resource.now.key.generation) c.self.view_is ∙ c.requires.there)).some

pub replace-requires-clause-there : goal.replace-requires-clause-there
replace-requires-clause-there c = (standing_at c.self.inside.objects.items c.args.resource.now.key.generation (flat c.args.resource.now) c.self.invariant.numbered
    (ap (resource_numbered c.args.resource.now.key.generation) c.self.view_is ∙ c.requires.there)).within

pub invariant_of-self : goal.invariant_of-self
invariant_of-self c =
    let stands = standing_at c.self.inside.objects.items c.args.resource.now.key.generation (flat c.args.resource.now) c.self.invariant.numbered
    (ap (resource_numbered c.args.resource.now.key.generation) c.self.view_is ∙ c.requires.there) in
    subst (λ xs. IsKept xs c.self.inside.cells) (sym c.replace.ensures)
    (kept_replaced c.self.inside.objects.items (record c.args.resource.now { state = states.Refused; refused = true }) (flat c.args.resource.now) c.self.inside.cells c.self.invariant stands refl)

pub returns : goal.returns
returns c =
    let stands = standing_at c.self.inside.objects.items c.args.resource.now.key.generation (flat c.args.resource.now) c.self.invariant.numbered
    (ap (resource_numbered c.args.resource.now.key.generation) c.self.view_is ∙ c.requires.there) in
    ap end_of c.replace.ensures
    ∙ replaced_view c.self.inside.objects.items (record c.args.resource.now { state = states.Refused; refused = true }) (flat c.args.resource.now) c.self.invariant.numbered stands
    ∙ ap (with_resource (flat (record c.args.resource.now { state = states.Refused; refused = true }))) c.self.view_is
