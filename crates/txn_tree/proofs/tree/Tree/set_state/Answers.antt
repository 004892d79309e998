use Rattle.std.proofs.Common.{◌≡◌, true, ◌<◌, length, ap, sym, ◌∙◌, arith}
use Rattle.std.specs.Prelude.{drop}
use Rattle.txn_tree.specs.declared.row.Row.{Row}
use Rattle.txn_tree.specs.Rows.{parent, is_live, is_live_branch}
use Rattle.txn_tree.proofs.Kept.{written_back}
use Rattle.txn_tree.proofs.Linking.{live_read}
use Rattle.txn_tree.proofs.Sound.{depths_kept}
use Rattle.txn_tree.proofs.Steps.{state_ended, state_lives}
use Rattle.txn_tree.proofs.tree.Tree.set_state.Goals as goal

pub unlink-requires-clause-shape : goal.unlink-requires-clause-shape
unlink-requires-clause-shape c =
    let same : c.parent_of-parent.result ≡ parent c.self.inside.rows.items c.args.branch =
    rw c.deref.ensures.value at c.parent_of-parent.ensures in
    rw (c.deref-then-not-is_live.ensures.value, c.deref-then-not-is_live-2.ensures.value, same) (depths_kept _ _ c.self.invariant.shape c.args.branch c.args.state)

pub unlink-requires-clause-linked : goal.unlink-requires-clause-linked
unlink-requires-clause-linked c =
    let there : c.args.branch < length c.self.inside.rows.items = rw (← c.self.view_is) at c.requires.there in
    let same : c.parent_of-parent.result ≡ parent c.self.inside.rows.items c.args.branch =
    rw c.deref.ensures.value at c.parent_of-parent.ensures in
    rw (c.deref-then-not-is_live.ensures.value, c.deref_mut.ensures.value, same)
    (state_ended c.self.inside.rows.items c.self.inside.links.items c.args.branch c.args.state c.self.invariant.shape.tree there
    (sym c.is_live.ensures ∙ c.if-not-is_live.true) c.self.invariant.linked)

pub invariant_of-self : goal.invariant_of-self
invariant_of-self c =
    let same : c.parent_of-parent.result ≡ parent c.self.inside.rows.items c.args.branch =
    rw c.deref.ensures.value at c.parent_of-parent.ensures in
    let len : c.self.inside.links.len ≡ length c.unlink.new.links = omega arith in
    record {
      shape = rw same (depths_kept _ _ c.self.invariant.shape c.args.branch c.args.state);
      linked = rw (written_back c.unlink.new.links (drop (length c.unlink.new.links) c.self.inside.links.items) c.self.inside.links.len len) (rw c.deref-then-not-is_live.ensures.value at c.unlink.ensures);
      rows_spare = c.self.invariant.rows_spare;
      depths_spare = c.self.invariant.depths_spare;
      links_spare = c.self.invariant.links_spare;
    }

pub relink-requires-clause-shape : goal.relink-requires-clause-shape
relink-requires-clause-shape c =
    let same : c.parent_of-parent.result ≡ parent c.self.inside.rows.items c.args.branch =
    rw c.deref.ensures.value at c.parent_of-parent.ensures in
    rw (c.deref-then-not-was_live.ensures.value, c.deref-then-not-was_live-2.ensures.value, same) (depths_kept _ _ c.self.invariant.shape c.args.branch c.args.state)

pub invariant_of-self-then-not-was_live : goal.invariant_of-self-then-not-was_live
invariant_of-self-then-not-was_live c =
    let same : c.parent_of-parent.result ≡ parent c.self.inside.rows.items c.args.branch =
    rw c.deref.ensures.value at c.parent_of-parent.ensures in
    let len : c.self.inside.links.len ≡ length c.relink.new.links = omega arith in
    record {
      shape = rw same (depths_kept _ _ c.self.invariant.shape c.args.branch c.args.state);
      linked = rw (written_back c.relink.new.links (drop (length c.relink.new.links) c.self.inside.links.items) c.self.inside.links.len len) (rw c.deref-then-not-was_live.ensures.value at c.relink.ensures);
      rows_spare = c.self.invariant.rows_spare;
      depths_spare = c.self.invariant.depths_spare;
      links_spare = c.self.invariant.links_spare;
    }

pub invariant_of-self-else-not-was_live : goal.invariant_of-self-else-not-was_live
invariant_of-self-else-not-was_live c =
    let there : c.args.branch < length c.self.inside.rows.items = rw (← c.self.view_is) at c.requires.there in
    let same : c.parent_of-parent.result ≡ parent c.self.inside.rows.items c.args.branch =
    rw c.deref.ensures.value at c.parent_of-parent.ensures in
    let was : is_live_branch c.self.inside.rows.items c.args.branch ≡ true =
    live_read c.self.inside.rows.items c.args.branch c.index.result.now there ∙ ap (λ (r : Row). is_live r.state) (sym c.index.ensures) ∙ sym c.is_live-was_live.ensures ∙ c.if-not-was_live.false in
    rw same (record {
      shape = depths_kept _ _ c.self.invariant.shape c.args.branch c.args.state;
      linked = state_lives c.self.inside.rows.items c.self.inside.links.items c.args.branch c.args.state c.self.invariant.shape.tree there
          (sym c.is_live.ensures ∙ c.if-not-is_live.false) was c.self.invariant.linked;
      rows_spare = c.self.invariant.rows_spare;
      depths_spare = c.self.invariant.depths_spare;
      links_spare = c.self.invariant.links_spare;
    })
