use Rattle.std.proofs.Common.{◌<◌, inl, inr, length, ◌∙◌, arith}
use Rattle.std.proofs.lemmas.Grind.{common_steps}
use Rattle.txn_tree.proofs.Kept.{same_or_not, last_here, last_there, last_past, wide_put}
use Rattle.txn_tree.proofs.links.clear.Goals as goal

pub loop-place-preserved : goal.loop-place-preserved
loop-place-preserved c =
    let within : c.loop-place.place-index < length c.loop-place.links = omega arith in
    record {
      wide = wide_put c.loop-place.links c.loop-place.place-index c.unlinked.result c.loop-place.invariant.wide c.unlinked.ensures.wide.0 c.unlinked.ensures.wide.1;
      same = grind (arith, common_steps, c.loop-place.invariant.same);
      none = λ a n h.
          elim (same_or_not a c.loop-place.place-index) [
            | inl e ↦ rw e (last_here c.loop-place.links c.loop-place.place-index n c.unlinked.result within ∙ c.unlinked.ensures.last n)
            | inr ne ↦ last_there c.loop-place.links c.loop-place.place-index a n c.unlinked.result ne ∙ c.loop-place.invariant.none a n (omega (arith, h, ne))
          ];
    }

pub returns-clause-none : goal.returns-clause-none
returns-clause-none c = λ a l. last_past c.loop-place.links a l (λ within. c.loop-place.invariant.none a l (omega (arith, within)))
