use Rattle.txn_tree.proofs.Kept.{before_read}
use Rattle.txn_tree.proofs.links.made_before.Goals as goal

pub returns : goal.returns
returns c = before_read c.args.links.now c.args.branch c.args.depth _ c.requires.there.0
