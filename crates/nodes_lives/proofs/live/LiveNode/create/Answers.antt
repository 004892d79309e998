use Rattle.std.proofs.Common.{inl, inr, sym, subst}
use Rattle.ots_outside.specs.MemDisk.{MemDiskState}
use Rattle.service_node.specs.NodeState.{NodeState}
use Rattle.nodes_lives.specs.Running.{IsRunning}
use Rattle.nodes_lives.proofs.Lasting.{made_runs}
use Rattle.nodes_lives.proofs.live.LiveNode.create.Goals as goal

pub invariant_of-self : goal.invariant_of-self
invariant_of-self c = elim (rw c.deref_mut.ensures.value at c.create.ensures) [
  | inl made ↦
      made_runs c.nodes_keep_decisions.ensures c.held_records_stood.ensures c.self.inside.running.node.value c.create.new.self c.self.inside.running.loaded.items c.self.inside.running.end c.self.invariant
      made.journal c.args.now c.args.seconds made.node
  | inr starved ↦ subst (λ (n : NodeState MemDiskState). IsRunning n c.self.inside.running.loaded.items c.self.inside.running.end) (sym starved.same) c.self.invariant
]
