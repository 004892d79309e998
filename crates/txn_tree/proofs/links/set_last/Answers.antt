use Rattle.std.proofs.Common.{◌<◌, arith}
use Rattle.txn_tree.proofs.Kept.{last_written, before_unwritten, wide_last}
use Rattle.txn_tree.specs.Links.{depth_count}
use Rattle.txn_tree.proofs.links.set_last.Goals as goal

pub returns-clause-wide : goal.returns-clause-wide
returns-clause-wide c = wide_last c.args.links.now c.args.above c.args.depth c.args.to _ c.requires.wide c.requires.there.0

pub returns-clause-last : goal.returns-clause-last
returns-clause-last c =
    let h : c.args.depth < depth_count = omega arith in
    last_written c.args.links.now c.args.above c.args.depth c.args.to _ c.requires.wide c.requires.there.0 h

pub returns-clause-before : goal.returns-clause-before
returns-clause-before c = before_unwritten c.args.links.now c.args.above _ _ c.requires.there.0
