use Rattle.std.proofs.Common.{◌≡◌, Some, refl, sym, subst}
use Rattle.std.specs.Prelude.{find}
use Rattle.resource_end.specs.End.{Resource, is_named}
use Rattle.resource_end.specs.Inside.{Id, numbered, resource_at}
use Rattle.resource_end.proofs.Named.{number_of_named}
use Rattle.resource_end.proofs.contents.Contents.state_of.Goals as goal

pub returns-in-Some : goal.returns-in-Some
returns-in-Some c =
    let id : Id = (c.args.key.now.life, c.args.key.now.generation) in
    let r : Resource = resource_at id c.in-Some.kept.now in (
      r,
      record {
        named = subst (λ s. find (is_named c.args.service c.args.key.now) s.resources ≡ Some r) c.self.view_is (sym c.in-Some.ensures.found);
        numbered = subst (λ s. numbered id s.resources ≡ Some r) c.self.view_is
            (number_of_named c.args.service c.args.key.now c.self.inside.resources r c.in-Some.ensures.apart (sym c.in-Some.ensures.found));
        stands = refl;
      },
    )
