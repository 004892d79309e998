use Rattle.std.proofs.Common.{◌≡◌, ◌∙◌, inl, inr, None, Some, refl, ap, sym, subst}
use Rattle.std.specs.Prelude.{find}
use Rattle.resource_end.specs.Calls.{is_open}
use Rattle.resource_end.specs.End.{is_named, named}
use Rattle.resource_end.specs.Inside.{IsNamed, numbered}
use Rattle.resource_end.proofs.end.ResourceEnd.needs_open.Goals as goal

pub returns-clause-can_put : goal.returns-clause-can_put
returns-clause-can_put g c =
    let it = c.in-Some.ensures in
    record {
      resource = it.0;
      is_named = subst (λ s. named c.args.key.now s.end ≡ Some it.0) c.self.view_is
          (subst (λ n. IsNamed n c.args.key.now c.self.inside.contents.resources c.in-Some.state it.0) c.service.ensures it.1).named;
      is_numbered = subst (λ s. numbered (c.args.key.now.life, c.args.key.now.generation) s.end.resources ≡ Some it.0) c.self.view_is it.1.numbered;
      can_put = ap is_open it.1.stands ∙ sym c.if-not-is_open.ensures;
    }

pub returns-then-not-is_open-clause-refused : goal.returns-then-not-is_open-clause-refused
returns-then-not-is_open-clause-refused g c =
    let it = c.in-Some.ensures in
    inr (
      refl,
      (
        it.0,
        subst (λ s. named c.args.key.now s.end ≡ Some it.0) c.self.view_is
            (subst (λ n. IsNamed n c.args.key.now c.self.inside.contents.resources c.in-Some.state it.0) c.service.ensures it.1).named,
        ap is_open it.1.stands ∙ sym c.if-not-is_open.ensures,
      ),
    )

pub returns-in-None-clause-refused : goal.returns-in-None-clause-refused
returns-in-None-clause-refused g c =
    inl (
      refl,
      subst (λ s. named c.args.key.now s.end ≡ None) c.self.view_is
          (subst (λ n. find (is_named n c.args.key.now) c.self.inside.contents.resources ≡ None) c.service.ensures c.in-None.ensures),
    )
