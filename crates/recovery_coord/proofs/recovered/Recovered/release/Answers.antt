use Rattle.std.proofs.Common.{List, subst}
use Rattle.recovery_coord.specs.declared.held.Held.{Held}
use Rattle.recovery_coord.specs.Trees.{IsPut, first_in, first_of, parted}
use Rattle.recovery_coord.proofs.Treed.{index_parted}
use Rattle.recovery_coord.proofs.recovered.Recovered.release.Goals as goal

pub invariant_of-self : goal.invariant_of-self
invariant_of-self c =
    let tree = c.in-Some.tree in
    let before = c.self.inside.trees.firsts in
    let after = c.part.new.self.firsts in
    record {
      order = c.let_go.ensures.order;
      index = index_parted before after tree c.self.inside.records c.let_go.new.self c.self.invariant.index c.in-Some.ensures.parted
          (subst (λ (xs : List Held). IsPut tree (parted (first_in before tree) (first_of tree xs)) before after) c.as_slice.ensures c.part.ensures.put);
    }
