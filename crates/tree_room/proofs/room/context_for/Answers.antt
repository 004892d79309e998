use Rattle.tree_room.proofs.Tails.{told_tail}
use Rattle.tree_room.proofs.room.context_for.Goals as goal

pub returns-in-Ok-clause-tail : goal.returns-in-Ok-clause-tail
returns-in-Ok-clause-tail g c = told_tail c.args.at.now c.args.event.now.now c.args.key.now c.args.node.now.node c.in-Ok.context c.in-Ok.ensures.told
