use Rattle.std.proofs.Common.{arith}
use Rattle.txn_tree.proofs.Sound.{depths_begin}
use Rattle.txn_tree.proofs.Steps.{links_begin}
use Rattle.txn_tree.proofs.tree.Tree.new.Goals as goal

pub invariant_of-result : goal.invariant_of-result
invariant_of-result c = record {
  shape = rw (c.push_reserved.ensures.items, c.push_reserved-2.ensures.items, c.in_ok-rows.ensures.items, c.in_ok-depths.ensures.items) depths_begin;
  linked = rw (c.push_reserved.ensures.items, c.push_reserved-3.ensures.items, c.in_ok-rows.ensures.items, c.in_ok-links.ensures.items)
      (links_begin c.unlinked.result c.unlinked.ensures.last c.unlinked.ensures.wide.0 c.unlinked.ensures.wide.1);
  rows_spare = omega (arith, c.push_reserved.ensures.capacity, c.push_reserved.ensures.len, c.in_ok-rows.ensures.exact, c.in_ok-rows.ensures.len);
  depths_spare = omega (arith, c.push_reserved-2.ensures.capacity, c.push_reserved-2.ensures.len, c.in_ok-depths.ensures.exact, c.in_ok-depths.ensures.len);
  links_spare = omega (arith, c.push_reserved-3.ensures.capacity, c.push_reserved-3.ensures.len, c.in_ok-links.ensures.exact, c.in_ok-links.ensures.len);
}
