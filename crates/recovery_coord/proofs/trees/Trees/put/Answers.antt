use Rattle.std.proofs.Common.{◌≡◌, ◌∙◌, cond, Option, None, Some, sym, ap, subst}
use Rattle.std.specs.Prelude.{IsSome}
use Rattle.recovery_coord.specs.declared.trees.First.{First}
use Rattle.recovery_coord.specs.Trees.{TreesParts, first_in, same_tree}
use Rattle.recovery_coord.proofs.Treed.{ok_where, some_none}
use Rattle.recovery_coord.proofs.trees.Trees.put.Goals as goal

pub returns-in-Some : goal.returns-in-Some
returns-in-Some c = record {
  put = λ t.
      let tree = c.args.tree in
      let is : c.args.first ≡ Some c.in-Some.first = cc (c.in-Some.is) in
      let there = subst (λ (p : TreesParts). IsSome (first_in p.firsts tree)) (sym c.self.view_is) (c.requires.there (cc (is))) in
      let updates = ok_where c.insert.result _ _ c.insert.ensures.absent (λ none. some_none _ there none) c.insert.ensures.updates in
      updates.0 t ∙ ap (λ (p : TreesParts). cond (same_tree tree t) (Some c.in-Some.first) (first_in p.firsts t)) c.self.view_is
      ∙ ap (λ (o : Option First). cond (same_tree tree t) o (first_in c.args.self.now.firsts t)) (sym is);
}

pub returns-in-None : goal.returns-in-None
returns-in-None c = record {
  put = λ t.
      let tree = c.args.tree in
      let is : c.args.first ≡ None = cc (c.in-None.is) in
      c.remove.ensures.updates.0 t ∙ ap (λ (p : TreesParts). cond (same_tree tree t) None (first_in p.firsts t)) c.self.view_is
      ∙ ap (λ (o : Option First). cond (same_tree tree t) o (first_in c.args.self.now.firsts t)) (sym is);
}
