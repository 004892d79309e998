use Rattle.std.proofs.Common.{◌≡◌, None, ◌+◌, ◌<◌, ◌∙◌, length, arith}
use Rattle.std.specs.Prelude.{drop}
use Rattle.std.proofs.lemmas.List.{get_or_default}
use Rattle.txn_tree.specs.Limits.{depth_limit, transaction_limit}
use Rattle.txn_tree.specs.Rows.{depth}
use Rattle.txn_tree.specs.Calls.{creating}
use Rattle.txn_tree.specs.Links.{AreLinked}
use Rattle.txn_tree.specs.TreeInside.{HaveDepths}
use Rattle.txn_tree.proofs.Kept.{written_back}
use Rattle.txn_tree.proofs.Sound.{depths_grow, has_space}
use Rattle.txn_tree.proofs.Steps.{links_grow}
use Rattle.txn_tree.proofs.tree.Tree.add.Goals as goal

pub link-requires-clause-shape : goal.link-requires-clause-shape
link-requires-clause-shape c =
    let there : c.args.parent < length c.self.inside.rows.items = rw (← c.self.view_is) at c.requires.there in
    let allowed : creating c.self.inside.rows.items c.args.parent ≡ None = rw (← c.self.view_is) at c.requires.allowed in
    let space : (depth c.self.inside.rows.items c.args.parent < depth_limit) × (length c.self.inside.rows.items < transaction_limit) = has_space _ _ allowed in
    let same : c.index.result.now ≡ depth c.self.inside.rows.items c.args.parent =
    c.index.ensures ∙ get_or_default c.self.inside.depths.items c.args.parent _ 0 (omega (arith, there, c.self.invariant.shape.each_has_one))
    ∙ c.self.invariant.shape.depths_are c.args.parent there in
    rw (c.deref.ensures.value, c.deref-2.ensures.value, c.push_reserved-3.ensures.items, c.push_reserved.ensures.items)
    (depths_grow _ _ c.self.invariant.shape c.args.parent there c.index.result.now same (rw same space.0) space.1)

pub link-requires-clause-linked : goal.link-requires-clause-linked
link-requires-clause-linked c =
    let last : c.len-branch.result ≡ length c.self.inside.rows.items = omega arith in
    rw (c.deref.ensures.value, c.deref_mut.ensures.value, c.push_reserved-3.ensures.items, c.push_reserved-2.ensures.items, last)
    (links_grow c.self.inside.rows.items c.self.inside.links.items c.args.parent c.unlinked.result c.self.invariant.shape.tree c.self.invariant.linked
    c.unlinked.ensures.last c.unlinked.ensures.wide.0 c.unlinked.ensures.wide.1)

pub invariant_of-self : goal.invariant_of-self
invariant_of-self c =
    let there : c.args.parent < length c.self.inside.rows.items = rw (← c.self.view_is) at c.requires.there in
    let allowed : creating c.self.inside.rows.items c.args.parent ≡ None = rw (← c.self.view_is) at c.requires.allowed in
    let space : (depth c.self.inside.rows.items c.args.parent < depth_limit) × (length c.self.inside.rows.items < transaction_limit) = has_space _ _ allowed in
    let same : c.index.result.now ≡ depth c.self.inside.rows.items c.args.parent =
    c.index.ensures ∙ get_or_default c.self.inside.depths.items c.args.parent _ 0 (omega (arith, there, c.self.invariant.shape.each_has_one))
    ∙ c.self.invariant.shape.depths_are c.args.parent there in
    let shape : HaveDepths c.push_reserved-3.new.self.items c.push_reserved.new.self.items =
    rw (c.push_reserved-3.ensures.items, c.push_reserved.ensures.items)
    (depths_grow _ _ c.self.invariant.shape c.args.parent there c.index.result.now same (rw same space.0) space.1) in
    let more : length c.push_reserved-3.new.self.items ≡ c.len-branch.result + 1 = omega arith in
    let linked : AreLinked c.push_reserved-3.new.self.items c.link.new.links (length c.push_reserved-3.new.self.items) =
    rw more (rw c.deref.ensures.value at c.link.ensures) in
    let len : c.push_reserved-2.new.self.len ≡ length c.link.new.links = omega arith in
    record {
      shape = shape;
      linked = rw (written_back c.link.new.links (drop (length c.link.new.links) c.push_reserved-2.new.self.items) c.push_reserved-2.new.self.len len) linked;
      rows_spare = omega (arith, c.self.invariant.rows_spare, c.push_reserved-3.ensures.capacity, c.push_reserved-3.ensures.len);
      depths_spare = omega (arith, c.self.invariant.depths_spare, c.push_reserved.ensures.capacity, c.push_reserved.ensures.len);
      links_spare = omega (arith, c.self.invariant.links_spare, c.push_reserved-2.ensures.capacity, c.push_reserved-2.ensures.len);
    }
