use Rattle.std.proofs.Common.{◌≡◌, ◌∙◌, sym, subst, ap, ◌<◌, false, List, length, get_or, arith}
use Rattle.std.specs.List.{remove}
use Rattle.std.proofs.lemmas.List.Quantifiers.{all_pairs_remove}
use Rattle.std.proofs.lemmas.List.Sums.{sum_by-remove}
use Rattle.family_rules.specs.Outs.{OutsParts, StandInOrder, comes_before, one_at, times}
use Rattle.family_rules.specs.declared.outs.Posted.{Posted}
use Rattle.family_rules.proofs.Words.{AreAbove, AreBelow, in_range, is_it}
use Rattle.family_rules.proofs.outs.Outs.remove.Goals as goal

pub remove-requires : goal.remove-requires
remove-requires c =
    let xs = c.self.inside.words.items in
    let p = c.args.posted in
    let at = c.place_of-at.result in
    let some : 0 < times p.serial p.branch xs = subst (λ (q : OutsParts). 0 < times p.serial p.branch q.words) (sym c.self.view_is) c.requires.there in
    let below : AreBelow xs at p = subst (λ (ys : List Posted). AreBelow ys at p) c.deref.ensures.value c.place_of-at.ensures.below in
    let within : at < length xs = in_range xs at p some below in
    omega (arith, within, c.self.inside.words.ok.0)

pub invariant_of-self : goal.invariant_of-self
invariant_of-self c =
    let xs = c.self.inside.words.items in
    let p = c.args.posted in
    let at = c.place_of-at.result in
    let some : 0 < times p.serial p.branch xs = subst (λ (q : OutsParts). 0 < times p.serial p.branch q.words) (sym c.self.view_is) c.requires.there in
    let below : AreBelow xs at p = subst (λ (ys : List Posted). AreBelow ys at p) c.deref.ensures.value c.place_of-at.ensures.below in
    let order : StandInOrder (remove xs at) = all_pairs_remove (λ (q r : Posted). comes_before r q ≡ false) xs at (in_range xs at p some below) c.self.invariant.order in
    record { order = subst StandInOrder (sym c.remove.ensures.items) order }

pub returns-clause-times : goal.returns-clause-times
returns-clause-times c =
    let xs = c.self.inside.words.items in
    let p = c.args.posted in
    let e = c.remove.result in
    let at = c.place_of-at.result in
    let some : 0 < times p.serial p.branch xs = subst (λ (q : OutsParts). 0 < times p.serial p.branch q.words) (sym c.self.view_is) c.requires.there in
    let below : AreBelow xs at p = subst (λ (ys : List Posted). AreBelow ys at p) c.deref.ensures.value c.place_of-at.ensures.below in
    let above : AreAbove xs at p = subst (λ (ys : List Posted). AreAbove ys at p) c.deref.ensures.value c.place_of-at.ensures.above in
    let within : at < length xs = in_range xs at p some below in
    let is : get_or xs at e ≡ p = sym c.remove.ensures.value ∙ is_it xs at p e c.self.invariant.order some below above c.remove.ensures.value in
    λ s b.
    let sums = sum_by-remove (one_at s b) xs at e within in
    let one : one_at s b (get_or xs at e) ≡ one_at s b p = ap (λ (q : Posted). one_at s b q) is in
    let now : times s b c.remove.new.self.items ≡ times s b (remove xs at) = ap (λ (qs : List Posted). times s b qs) c.remove.ensures.items in
    let was : times s b xs ≡ times s b c.args.self.now.words = ap (λ (q : OutsParts). times s b q.words) c.self.view_is in
    omega (arith, sums, one, now, was)
