use Rattle.std.proofs.Common.{◌∙◌, List, sym, ap, subst, arith}
use Rattle.std.specs.List.{filter_map}
use Rattle.recovery_coord.specs.declared.held.Held.{Held}
use Rattle.recovery_coord.specs.Held.{loaded}
use Rattle.recovery_coord.specs.Order.{RiseFrom}
use Rattle.recovery_coord.specs.Trees.{IsIndex}
use Rattle.recovery_coord.proofs.Loaded.{loaded_rise}
use Rattle.recovery_coord.proofs.recovered.Recovered.from.Goals as goal

pub of-requires : goal.of-requires
of-requires g c = record {
  order =
      let order = loaded_rise 0 c.args.journal.now.found.standing c.standing.ensures.order (λ k d within. omega arith) in
      subst (λ (xs : List Held). RiseFrom 0 xs) (sym (c.deref.ensures.value ∙ c.in_ok-records.ensures ∙ ap (filter_map loaded) c.standing.ensures.same)) order;
}

pub invariant_of-result : goal.invariant_of-result
invariant_of-result g c =
    let order = loaded_rise 0 c.args.journal.now.found.standing c.standing.ensures.order (λ k d within. omega arith) in
    record {
      order = subst (λ (xs : List Held). RiseFrom 0 xs) (sym (c.of-2.ensures ∙ c.in_ok-records.ensures ∙ ap (filter_map loaded) c.standing.ensures.same)) order;
      index = subst (λ (xs : List Held). IsIndex c.in_ok-trees.trees.firsts xs) (c.deref.ensures.value ∙ sym c.of-2.ensures) c.in_ok-trees.ensures;
    }
