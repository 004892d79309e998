use Rattle.std.proofs.Common.{◌≡◌, ◌<◌, ◌≤◌, true, false, length, refl, sym, ◌∙◌, arith}
use Rattle.std.specs.Prelude.{slice_index}
use Rattle.txn_tree.specs.Rows.{depth, is_live_branch}
use Rattle.txn_tree.specs.Limits.{depth_limit}
use Rattle.txn_tree.proofs.Lineages.{parent_below}
use Rattle.txn_tree.proofs.Linking.{linking_begins, linking_goes_on, linking_ends, puts_ended, puts_live, live_read}
use Rattle.txn_tree.proofs.links.link.Goals as goal

pub loop-above-init : goal.loop-above-init
loop-above-init c = linking_begins c.args.rows.now c.args.links.now c.args.branch c.requires.shape.tree c.requires.there c.requires.linked

pub last_below-last-requires : goal.last_below-last-requires
last_below-last-requires c =
    let low : c.in-Some.above < c.loop-above.at = parent_below c.args.rows.now c.requires.shape.tree _ _ c.loop-above.invariant.there (sym c.in-Some.ensures) in
    let its : slice_index c.args.depths.now c.args.branch ≡ depth c.args.rows.now c.args.branch = c.requires.shape.depths_are c.args.branch c.requires.there in
    let shallow : depth c.args.rows.now c.args.branch ≤ depth_limit = c.requires.shape.shallow c.args.branch c.requires.there in
    record { there = (omega (arith, c.loop-above.invariant.each_has_one, c.loop-above.invariant.there), omega arith) }

pub bounds-depths-above : goal.bounds-depths-above
bounds-depths-above c =
    let low : c.in-Some.above < c.loop-above.at = parent_below c.args.rows.now c.requires.shape.tree _ _ c.loop-above.invariant.there (sym c.in-Some.ensures) in
    omega (arith, c.loop-above.invariant.there, c.requires.shape.each_has_one)

pub set_last-requires-clause-there : goal.set_last-requires-clause-there
set_last-requires-clause-there c =
    let low : c.in-Some.above < c.loop-above.at = parent_below c.args.rows.now c.requires.shape.tree _ _ c.loop-above.invariant.there (sym c.in-Some.ensures) in
    let its : slice_index c.args.depths.now c.args.branch ≡ depth c.args.rows.now c.args.branch = c.requires.shape.depths_are c.args.branch c.requires.there in
    let shallow : depth c.args.rows.now c.args.branch ≤ depth_limit = c.requires.shape.shallow c.args.branch c.requires.there in
    (omega (arith, c.loop-above.invariant.each_has_one, c.loop-above.invariant.there, c.set_before.ensures.length), omega arith)

pub loop-above-smaller-then-is_live : goal.loop-above-smaller-then-is_live
loop-above-smaller-then-is_live c = parent_below c.args.rows.now c.requires.shape.tree _ _ c.loop-above.invariant.there (sym c.in-Some.ensures)

pub loop-above-smaller : goal.loop-above-smaller
loop-above-smaller c = parent_below c.args.rows.now c.requires.shape.tree _ _ c.loop-above.invariant.there (sym c.in-Some.ensures)

pub loop-above-preserved-then-is_live : goal.loop-above-preserved-then-is_live
loop-above-preserved-then-is_live c =
    let rows = c.args.rows.now in
    let tree = c.requires.shape.tree in
    let low : c.in-Some.above < c.loop-above.at = parent_below rows tree _ _ c.loop-above.invariant.there (sym c.in-Some.ensures) in
    let within : c.in-Some.above < length rows = omega (arith, c.loop-above.invariant.there) in
    let live : is_live_branch rows c.args.branch ≡ true = live_read rows c.args.branch _ c.requires.there ∙ sym c.is_live-is_live.ensures ∙ c.if-is_live.true in
    linking_goes_on rows c.loop-above.links c.set_last.new.links c.args.branch c.loop-above.at c.in-Some.above tree c.requires.there (sym c.in-Some.ensures) c.loop-above.invariant
    (puts_live rows c.loop-above.links c.set_before.new.links c.set_last.new.links c.args.branch c.loop-above.at c.in-Some.above _ _ _ _ tree c.requires.there (sym c.in-Some.ensures) c.loop-above.invariant live
    (c.requires.shape.depths_are c.args.branch c.requires.there) (c.requires.shape.depths_are c.in-Some.above within) c.last_below-last.ensures refl
    c.set_before.ensures.length c.set_last.ensures.length c.set_last.ensures.wide c.set_before.ensures.last c.set_last.ensures.last c.set_before.ensures.before c.set_last.ensures.before)

pub loop-above-preserved : goal.loop-above-preserved
loop-above-preserved c =
    let rows = c.args.rows.now in
    let tree = c.requires.shape.tree in
    let low : c.in-Some.above < c.loop-above.at = parent_below rows tree _ _ c.loop-above.invariant.there (sym c.in-Some.ensures) in
    let within : c.in-Some.above < length rows = omega (arith, c.loop-above.invariant.there) in
    let dead : is_live_branch rows c.args.branch ≡ false = live_read rows c.args.branch _ c.requires.there ∙ sym c.is_live-is_live.ensures ∙ c.if-is_live.false in
    linking_goes_on rows c.loop-above.links c.set_before.new.links c.args.branch c.loop-above.at c.in-Some.above tree c.requires.there (sym c.in-Some.ensures) c.loop-above.invariant
    (puts_ended rows c.loop-above.links c.set_before.new.links c.args.branch c.loop-above.at c.in-Some.above _ _ _ tree (sym c.in-Some.ensures) c.loop-above.invariant dead
    (c.requires.shape.depths_are c.args.branch c.requires.there) (c.requires.shape.depths_are c.in-Some.above within) c.last_below-last.ensures
    c.set_before.ensures.length c.set_before.ensures.wide c.set_before.ensures.last c.set_before.ensures.before)

pub returns : goal.returns
returns c = linking_ends c.args.rows.now c.loop-above.links c.args.branch c.loop-above.at (sym c.parent_of.ensures ∙ c.in_default.is) c.loop-above.invariant
