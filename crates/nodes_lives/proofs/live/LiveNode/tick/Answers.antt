use Rattle.nodes_lives.proofs.Lasting.{ticked_runs}
use Rattle.nodes_lives.proofs.live.LiveNode.tick.Goals as goal

pub invariant_of-result : goal.invariant_of-result
invariant_of-result c =
    ticked_runs c.nodes_keep_decisions.ensures c.held_records_stood.ensures c.self.inside.running.node.value c.tick.new.self c.self.inside.running.loaded.items c.self.inside.running.end c.self.invariant
    (rw c.deref_mut.ensures.value at c.in-Ok.ensures.journal) c.args.now (rw c.deref_mut.ensures.value at c.in-Ok.ensures.node)
