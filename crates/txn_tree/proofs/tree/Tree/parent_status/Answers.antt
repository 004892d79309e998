use Rattle.std.proofs.Common.{◌≡◌, Option, Some, None, ℕ, refl, ap, ◌∙◌}
use Rattle.std.specs.Option.{unwrap_or, option_map_or}
use Rattle.txn_tree.specs.Calls.{status, TreeParts}
use Rattle.txn_tree.specs.Rows.{parent}
use Rattle.txn_tree.proofs.tree.Tree.parent_status.Goals as goal

same_default : (o : Option ℕ) (b : ℕ) → unwrap_or o b ≡ option_map_or (λ p. p) o b
same_default None b = refl
same_default (Some p) b = refl

pub returns : goal.returns
returns c =
    let its : c.unwrap_or.result ≡ option_map_or (λ p. p) (parent c.args.self.now.rows c.args.branch) c.args.branch =
    c.unwrap_or.ensures ∙ same_default c.parent_of.result c.args.branch
    ∙ ap (λ (o : Option ℕ). option_map_or (λ p. p) o c.args.branch) (rw c.deref.ensures.value at c.parent_of.ensures)
    ∙ ap (λ (v : TreeParts). option_map_or (λ p. p) (parent v.rows c.args.branch) c.args.branch) c.self.view_is in
    c.status.ensures.shown ∙ ap (λ (b : ℕ). status c.args.self.now.rows b) its
