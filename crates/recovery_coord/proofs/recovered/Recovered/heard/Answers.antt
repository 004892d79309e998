use Rattle.std.proofs.Common.{List, sym, subst}
use Rattle.recovery_coord.specs.declared.held.Held.{Held}
use Rattle.recovery_coord.specs.Hearing.{record_after}
use Rattle.recovery_coord.specs.Trees.{IsIndex}
use Rattle.recovery_coord.proofs.Ordered.{same_place}
use Rattle.recovery_coord.proofs.Treed.{heard_tree, index_map}
use Rattle.recovery_coord.proofs.recovered.Recovered.heard.Goals as goal

pub invariant_of-self : goal.invariant_of-self
invariant_of-self c =
    let n = c.args.n.now in
    let h = c.args.h.now in
    let firsts = c.self.inside.trees.firsts in
    record {
      order = c.hear.ensures.order;
      index = subst (λ (xs : List Held). IsIndex firsts xs) (sym c.hear.ensures.after)
          (index_map (record_after n h) (same_place n h) (heard_tree n h) firsts c.self.inside.records c.self.invariant.index);
    }
