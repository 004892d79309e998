use Rattle.std.proofs.Common.{◌≡◌, ◌<◌, ◌≤◌, length, sym, ◌∙◌, arith}
use Rattle.std.specs.Prelude.{slice_index}
use Rattle.txn_tree.specs.Rows.{depth}
use Rattle.txn_tree.specs.Limits.{depth_limit}
use Rattle.txn_tree.proofs.Lineages.{parent_below}
use Rattle.txn_tree.proofs.Unlinking.{unlinking_begins, unlinking_goes_on, unlinking_ends, mends}
use Rattle.txn_tree.proofs.links.unlink.Goals as goal

pub loop-above-init : goal.loop-above-init
loop-above-init c = unlinking_begins c.args.rows.now c.args.links.now c.args.branch c.requires.shape.tree c.requires.there c.requires.linked

pub bounds-depths-above : goal.bounds-depths-above
bounds-depths-above c =
    let low : c.in-Some.above < c.loop-above.at = parent_below c.args.rows.now c.requires.shape.tree _ _ c.loop-above.invariant.there (sym c.in-Some.ensures) in
    omega (arith, c.loop-above.invariant.there, c.requires.shape.each_has_one)

pub last_live-last-requires-clause-there : goal.last_live-last-requires-clause-there
last_live-last-requires-clause-there c =
    let low : c.in-Some.above < c.loop-above.at = parent_below c.args.rows.now c.requires.shape.tree _ _ c.loop-above.invariant.there (sym c.in-Some.ensures) in
    let within : c.in-Some.above < length c.args.rows.now = omega (arith, c.loop-above.invariant.there) in
    let its : slice_index c.args.depths.now c.args.branch ≡ depth c.args.rows.now c.args.branch = c.requires.shape.depths_are c.args.branch c.requires.there in
    let shallow : depth c.args.rows.now c.args.branch ≤ depth_limit = c.requires.shape.shallow c.args.branch c.requires.there in
    let above : slice_index c.args.depths.now c.in-Some.above ≡ depth c.args.rows.now c.in-Some.above = c.requires.shape.depths_are c.in-Some.above within in
    let also : depth c.args.rows.now c.in-Some.above ≤ depth_limit = c.requires.shape.shallow c.in-Some.above within in
    (within, omega arith, omega arith)

pub last_live-last-requires-clause-above : goal.last_live-last-requires-clause-above
last_live-last-requires-clause-above c =
    let low : c.in-Some.above < c.loop-above.at = parent_below c.args.rows.now c.requires.shape.tree _ _ c.loop-above.invariant.there (sym c.in-Some.ensures) in
    c.requires.shape.depths_are c.in-Some.above (omega (arith, c.loop-above.invariant.there))

pub set_last-requires-clause-there : goal.set_last-requires-clause-there
set_last-requires-clause-there c =
    let low : c.in-Some.above < c.loop-above.at = parent_below c.args.rows.now c.requires.shape.tree _ _ c.loop-above.invariant.there (sym c.in-Some.ensures) in
    let its : slice_index c.args.depths.now c.args.branch ≡ depth c.args.rows.now c.args.branch = c.requires.shape.depths_are c.args.branch c.requires.there in
    let shallow : depth c.args.rows.now c.args.branch ≤ depth_limit = c.requires.shape.shallow c.args.branch c.requires.there in
    (omega (arith, c.loop-above.invariant.ways.each_has_one, c.loop-above.invariant.there), omega arith)

pub loop-above-smaller : goal.loop-above-smaller
loop-above-smaller c = parent_below c.args.rows.now c.requires.shape.tree _ _ c.loop-above.invariant.there (sym c.in-Some.ensures)

pub loop-above-preserved : goal.loop-above-preserved
loop-above-preserved c =
    let rows = c.args.rows.now in
    unlinking_goes_on rows c.loop-above.links c.set_last.new.links c.args.branch c.loop-above.at c.in-Some.above c.requires.shape.tree c.requires.there (sym c.in-Some.ensures) c.loop-above.invariant
    (mends rows c.loop-above.links c.set_last.new.links c.args.branch c.in-Some.above _ _ (c.requires.shape.depths_are c.args.branch c.requires.there)
    c.set_last.ensures.length c.set_last.ensures.wide c.set_last.ensures.before c.set_last.ensures.last c.last_live-last.ensures.back c.last_live-last.ensures.live)

pub returns : goal.returns
returns c = unlinking_ends c.args.rows.now c.loop-above.links c.args.branch c.loop-above.at (sym c.parent_of.ensures ∙ c.in_default.is) c.loop-above.invariant
