use Rattle.std.proofs.Common.{◌≡◌, ◌∙◌, sym, subst, ap, List}
use Rattle.std.specs.List.{slice_get}
use Rattle.family_rules.specs.Outs.{IsFirstOf, OutsParts, StandInOrder, branch_in}
use Rattle.family_rules.specs.declared.outs.Posted.{Posted}
use Rattle.family_rules.proofs.Words.{first_is}
use Rattle.family_rules.proofs.outs.Outs.first_of.Goals as goal

pub returns : goal.returns
returns c =
    let same : c.deref.result.now ≡ c.self.inside.words.items = c.deref.ensures.value in
    let order : StandInOrder c.deref.result.now = subst (λ (xs : List Posted). StandInOrder xs) (sym same) c.self.invariant.order in
    subst (λ (xs : List Posted). IsFirstOf c.args.serial xs c.branch_at.result) (same ∙ ap (λ (p : OutsParts). p.words) c.self.view_is)
    (first_is c.deref.result.now c.place_of-at.result c.args.serial c.branch_at.result order c.place_of-at.ensures.below c.place_of-at.ensures.above
    (c.branch_at.ensures ∙ ap (λ (xs : List Posted). branch_in c.args.serial (slice_get xs c.place_of-at.result)) (c.deref-2.ensures.value ∙ sym same)))
