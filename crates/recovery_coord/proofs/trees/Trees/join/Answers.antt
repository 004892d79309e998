use Rattle.std.proofs.Common.{◌∙◌, ◌<◌, cond, Some, sym, ap, subst}
use Rattle.recovery_coord.specs.declared.trees.First.{First}
use Rattle.recovery_coord.specs.Trees.{TreesParts, first_in, joined, same_tree}
use Rattle.recovery_coord.proofs.Treed.{on_ok}
use Rattle.recovery_coord.proofs.trees.Trees.join.Goals as goal

pub returns : goal.returns
returns c = record {
  put = λ t.
      let tree = c.args.tree in
      let place = c.args.place in
      let fits = c.insert.ensures.succeeds (subst (λ (p : TreesParts). 0 < p.room) (sym c.self.view_is) c.requires.room) in
      let updates = on_ok c.insert.result _ fits c.insert.ensures.updates in
      updates.0 t
      ∙ ap (λ (f : First). cond (same_tree tree t) (Some f) (first_in c.self.inside.firsts.entries t)) (c.joined-first.ensures ∙ ap (joined place) c.first.ensures)
      ∙ ap (λ (p : TreesParts). cond (same_tree tree t) (Some (joined place (first_in c.args.self.now.firsts tree))) (first_in p.firsts t)) c.self.view_is;
}
