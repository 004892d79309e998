use Rattle.std.proofs.Common.{List, sym, subst}
use Rattle.recovery_coord.specs.declared.held.Held.{Held}
use Rattle.recovery_coord.specs.Telling.{retold}
use Rattle.recovery_coord.specs.Trees.{AreFound}
use Rattle.recovery_coord.proofs.Ordered.{retold_place, rise_retold}
use Rattle.recovery_coord.proofs.Treed.{index_map, retold_tree}
use Rattle.recovery_coord.proofs.recovered.Recovered.redrive.Goals as goal

pub invariant_of-self : goal.invariant_of-self
invariant_of-self c =
    let firsts = c.self.inside.trees.firsts in
    let records = c.self.inside.records in
    subst (λ (xs : List Held). AreFound firsts xs) (sym c.tell_all.ensures.records) (record {
      order = rise_retold 0 records c.self.invariant.order;
      index = index_map retold retold_place retold_tree firsts records c.self.invariant.index;
    })
