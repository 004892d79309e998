use Rattle.std.proofs.Common.{◌≤◌, sym, subst, is_ok, List, length, arith}
use Rattle.std.specs.List.{insert}
use Rattle.family_rules.specs.Outs.{StandInOrder}
use Rattle.family_rules.specs.declared.outs.Posted.{Posted}
use Rattle.family_rules.proofs.Words.{AreAbove, AreBelow, order_inserted, order_kept}
use Rattle.family_rules.proofs.outs.Outs.insert.Goals as goal

pub invariant_of-self : goal.invariant_of-self
invariant_of-self c =
    let xs = c.self.inside.words.items in
    let p = c.args.posted in
    let at = c.place_of-at.result in
    let fits : at ≤ length xs = subst (λ (ys : List Posted). at ≤ length ys) c.deref.ensures.value c.place_of-at.ensures.bound in
    let below : AreBelow xs at p = subst (λ (ys : List Posted). AreBelow ys at p) c.deref.ensures.value c.place_of-at.ensures.below in
    let above : AreAbove xs at p = subst (λ (ys : List Posted). AreAbove ys at p) c.deref.ensures.value c.place_of-at.ensures.above in
    let order : StandInOrder (insert xs at p) = order_inserted xs at p c.self.invariant.order fits below above in
    record { order = subst StandInOrder (sym c.insert.ensures.items) (order_kept (is_ok c.insert.result) (insert xs at p) xs order c.self.invariant.order) }
