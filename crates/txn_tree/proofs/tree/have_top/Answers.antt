use Rattle.std.proofs.Common.{sym, ◌∙◌}
use Rattle.txn_tree.proofs.Lineages.{all_related, top_ancestor}
use Rattle.txn_tree.proofs.tree.have_top.Goals as goal

pub returns-then-is_above : goal.returns-then-is_above
returns-then-is_above c =
    c.is_above-then-is_above.ensures ∙ top_ancestor _ c.requires.tree c.args.b c.requires.there.1
    ∙ sym (all_related _ c.requires.tree _ _ c.requires.there.0 c.requires.there.1)

pub returns-else-is_above : goal.returns-else-is_above
returns-else-is_above c =
    c.is_above.ensures ∙ top_ancestor _ c.requires.tree c.args.a c.requires.there.0
    ∙ sym (all_related _ c.requires.tree _ _ c.requires.there.0 c.requires.there.1)
