use Rattle.std.proofs.Common.{◌∙◌}
use Rattle.txn_tree.proofs.Ways.{cleared}
use Rattle.txn_tree.proofs.links.relink.Goals as goal

pub loop-branch-init : goal.loop-branch-init
loop-branch-init c = cleared c.args.rows.now c.clear.new.links (c.clear.ensures.length ∙ c.requires.each) c.clear.ensures.wide c.clear.ensures.none
