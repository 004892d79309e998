use Rattle.std.proofs.Common.{◌<◌, arith}
use Rattle.txn_tree.proofs.Kept.{before_written, last_unwritten, wide_before}
use Rattle.txn_tree.specs.Links.{depth_count}
use Rattle.txn_tree.proofs.links.set_before.Goals as goal

pub returns-clause-wide : goal.returns-clause-wide
returns-clause-wide c = wide_before c.args.links.now c.args.branch c.args.depth c.args.to _ c.requires.wide c.requires.there.0

pub returns-clause-last : goal.returns-clause-last
returns-clause-last c = last_unwritten c.args.links.now c.args.branch _ _ c.requires.there.0

pub returns-clause-before : goal.returns-clause-before
returns-clause-before c =
    let h : c.args.depth < depth_count = omega arith in
    before_written c.args.links.now c.args.branch c.args.depth c.args.to _ c.requires.wide c.requires.there.0 h
