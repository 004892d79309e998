use Rattle.std.proofs.Common.{◌≡◌, sym, subst}
use Rattle.std.specs.Prelude.{IsSome}
use Rattle.resource_end.specs.End.{with_resource}
use Rattle.resource_end.specs.Calls.{bound}
use Rattle.resource_end.specs.Inside.{AreHeld, numbered}
use Rattle.resource_end.proofs.Claims.{held_bound, known}
use Rattle.resource_end.proofs.contents.Contents.bind.Goals as goal

pub invariant_of-self : goal.invariant_of-self
invariant_of-self c =
    let there = subst (λ s. IsSome (numbered c.args.id s.resources)) (sym c.self.view_is) c.requires.known in
    let it = known (numbered c.args.id c.self.inside.resources) there (λ r. c.bind.new.self ≡ with_resource (bound c.args.recovery r) c.self.inside.resources) c.bind.ensures.after in
    subst (AreHeld c.self.inside.contested c.self.inside.cells) (sym it.1.1)
    (held_bound c.self.inside.contested c.self.inside.cells c.self.inside.resources c.args.id it.0 it.1.0 c.args.recovery c.self.invariant)
