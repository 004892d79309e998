use Rattle.std.proofs.Common.{ap, ◌∙◌}
use Rattle.ots_outside.specs.MemDisk.{MemDiskState}
use Rattle.service_node.specs.NodeState.{NodeState}
use Rattle.nodes_lives.proofs.Resting.{current_of}
use Rattle.nodes_lives.proofs.running.is_current.Goals as goal

pub returns : goal.returns
returns c =
    current_of c.args.running.now.node.value.journal c.journal.result.now (c.journal.ensures ∙ ap (λ (s : NodeState MemDiskState). s.journal) c.deref.ensures) c.requires.failed c.requires.sure c.disk-disk.ensures.kept c.disk-disk.ensures.each
