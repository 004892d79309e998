use Rattle.std.proofs.Common.{◌∙◌, ◌+◌, Some, ap, subst, sym, take, arith}
use Rattle.recovery_coord.specs.declared.held.Held.{Held}
use Rattle.recovery_coord.specs.declared.trees.Tree.{Tree}
use Rattle.recovery_coord.specs.Trees.{IsPut, first_in, first_of, joined, joins}
use Rattle.recovery_coord.proofs.Treed.{first_push, index_joined}
use Rattle.recovery_coord.proofs.trees.Trees.of.Goals as goal

pub loop-held-preserved : goal.loop-held-preserved
loop-held-preserved c =
    let x = c.held-item.result in
    let i = c.loop-held.held-index in
    let rs = c.args.records.now in
    let before = c.reserve.new.self.firsts in
    index_joined before c.join.new.self.firsts x (take i rs) (take (i + 1) rs)
    (λ t. c.reserve.ensures.same t ∙ c.loop-held.invariant t)
    (λ t. first_push t rs c.requires.order i x (omega arith) ∙ ap (λ (r : Held). joins t r (first_of t (take i rs))) (sym c.held-item.is))
    (subst (λ (u : Tree). IsPut u (Some (joined x.place (first_in before u))) before c.join.new.self.firsts) c.tree_of.ensures c.join.ensures.put)
