use Rattle.std.proofs.Common.{◌∙◌, Option, ap, subst}
use Rattle.std.specs.Prelude.{IsSome}
use Rattle.recovery_coord.specs.declared.trees.First.{First}
use Rattle.recovery_coord.specs.Trees.{IsPut, first_of, parted}
use Rattle.recovery_coord.proofs.Treed.{parted_some}
use Rattle.recovery_coord.proofs.trees.Trees.part.Goals as goal

pub put-requires : goal.put-requires
put-requires c = record {
  there = λ some.
      let is = c.left_of-left.ensures ∙ ap (λ (o : Option First). parted o (first_of c.args.tree c.args.records.now)) c.first.ensures in
      parted_some _ _ (subst (λ (o : Option First). IsSome o) is some);
}

pub returns : goal.returns
returns c = record {
  put =
      let is = c.left_of-left.ensures ∙ ap (λ (o : Option First). parted o (first_of c.args.tree c.args.records.now)) c.first.ensures in
      subst (λ (o : Option First). IsPut c.args.tree o c.args.self.now.firsts c.put.new.self.firsts) is c.put.ensures.put;
}
