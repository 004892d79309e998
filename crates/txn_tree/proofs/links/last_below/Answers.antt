use Rattle.txn_tree.proofs.Kept.{last_read}
use Rattle.txn_tree.proofs.links.last_below.Goals as goal

pub returns : goal.returns
returns c = last_read c.args.links.now c.args.above c.args.depth _ c.requires.there.0
