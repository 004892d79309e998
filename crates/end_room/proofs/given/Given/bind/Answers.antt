use Rattle.std.proofs.Common.{◌∙◌, ap, refl, subst, true, IsSome}
use Rattle.end_room.specs.Inside.{IsBoundIn, names_in}
use Rattle.end_room.specs.Own.{IsNamed, named}
use Rattle.end_room.specs.declared.ends.Enlisted.{Enlisted}
use Rattle.end_room.proofs.Names.{found, is_named}
use Rattle.end_room.proofs.given.Given.bind.Goals as goal

pub returns-in_default : goal.returns-in_default
returns-in_default c = record {
  bound = subst (λ r. IsBoundIn r c.args.tid.now c.args.self.now (names_in c.get_mut.follows.lender-at-none))
      (c.in_default.ensures.value ∙ found c.args.tid.now c.self.inside.map ∙ ap (named c.args.tid.now) c.self.view_is)
      (ap names_in c.get_mut.follows.holds-at-none ∙ c.self.view_is);
}

pub returns : goal.returns
returns c =
    let w : Enlisted = record { key = c.in-Some.enlisted.now.key; bound = true } in
    record {
      bound = subst (λ r. IsBoundIn r c.args.tid.now c.args.self.now (names_in (c.get_mut.follows.lender w)))
          (c.in-Some.ensures.value ∙ found c.args.tid.now c.self.inside.map ∙ ap (named c.args.tid.now) c.self.view_is)
          (subst (λ before. IsNamed c.args.tid.now w before (names_in (c.get_mut.follows.lender w))) c.self.view_is
          (is_named c.args.tid.now w c.self.inside.map (c.get_mut.follows.lender w) ((c.get_mut.follows.holds w).3 (subst IsSome c.in-Some.ensures.value refl))));
    }
