use Rattle.std.proofs.Common.{ap, ◌∙◌}
use Rattle.txn_tree.specs.Calls.{TreeParts, live_under}
use Rattle.txn_tree.proofs.Found.{found_next}
use Rattle.txn_tree.proofs.tree.Tree.live_under.Goals as goal

pub returns : goal.returns
returns c =
    found_next c.self.inside.rows.items c.self.inside.depths.items c.self.inside.links.items c.args.branch c.self.invariant.shape c.self.invariant.linked c.last_under.result
    (rw c.deref.ensures.value at c.last_under.ensures)
    ∙ ap (λ (v : TreeParts). live_under v.rows c.args.branch) c.self.view_is
