use Rattle.std.proofs.Common.{◌∙◌, Option, sym, ap, take, arith}
use Rattle.recovery_coord.specs.declared.held.Held.{Held}
use Rattle.recovery_coord.specs.declared.trees.First.{First}
use Rattle.recovery_coord.specs.Trees.{first_of, joins}
use Rattle.recovery_coord.proofs.Treed.{first_push}
use Rattle.recovery_coord.proofs.trees.first_of.Goals as goal

pub loop-held-preserved : goal.loop-held-preserved
loop-held-preserved c =
    let x = c.held-item.result in
    let step = first_push c.args.tree c.args.records.now c.requires.order c.loop-held.held-index x (omega arith) in
    c.with_next-first.ensures ∙ ap (λ (o : Option First). joins c.args.tree x o) c.loop-held.invariant
    ∙ ap (λ (r : Held). joins c.args.tree r (first_of c.args.tree (take c.loop-held.held-index c.args.records.now))) c.held-item.is ∙ sym step
