use Rattle.std.proofs.Common.{ℕ, List, sym, ap, subst, ◌∙◌}
use Rattle.ots_outside.specs.MemDisk.{MemDiskState}
use Rattle.decision_journal.specs.State.{JournalState}
use Rattle.nodes_parts.specs.Gated.{IsEndGate}
use Rattle.service_node.specs.NodeState.{NodeState}
use Rattle.nodes_lives.specs.Loads.{IsLoaded, IsLoadRefusal}
use Rattle.nodes_lives.specs.Running.{IsRunning}
use Rattle.nodes_lives.proofs.Beginning.{begun, refused, runs}
use Rattle.nodes_lives.proofs.live.load.Goals as goal

pub returns-in-Err-clause-fault : goal.returns-in-Err-clause-fault
returns-in-Err-clause-fault c =
    subst (IsLoadRefusal c.args.service c.args.octets.items) (sym c.load_refusal.ensures)
    (refused c.records_are_read.ensures c.args.service c.args.octets.items c.in_ok-disk.disk.disk c.in_ok-disk.disk.faults c.in-Err.back.value.faults c.in-Err.back.fault
    c.in_ok-disk.ensures.disk c.in-Err.ensures.fault)

pub returns-clause-loaded : goal.returns-clause-loaded
returns-clause-loaded c =
    subst (λ (n : NodeState MemDiskState). IsLoaded c.args.service c.args.octets.items (record { node = n.node; disk = n.journal.disk.disk })) (sym c.in_ok-held.ensures.same)
    (begun c.octets_stand_for_one_list.ensures c.creations_are_safe.ensures c.journals_grow.ensures c.records_are_read.ensures c.nodes_keep_decisions.ensures
    c.held_records_stood.ensures c.args.service c.args.octets.items c.in_ok-disk.disk.disk c.in-Ok.node c.in_ok-disk.ensures.disk c.in-Ok.ensures.done
    c.in-Ok.ensures.service c.in-Ok.ensures.area c.in-Ok.ensures.failed c.in-Ok.ensures.doubted c.in-Ok.ensures.current c.in-Ok.ensures.node)

pub returns-clause-runs : goal.returns-clause-runs
returns-clause-runs c =
    subst (λ (n : NodeState MemDiskState). IsRunning n c.in_ok-loaded.loaded.items c.last_gates-end.result.end) (sym c.in_ok-held.ensures.same)
    (runs c.octets_stand_for_one_list.ensures c.creations_are_safe.ensures c.journals_grow.ensures c.records_are_read.ensures c.nodes_keep_decisions.ensures
    c.held_records_stood.ensures c.args.service c.args.octets.items c.in_ok-disk.disk.disk c.in-Ok.node c.in_ok-disk.ensures.disk c.in-Ok.ensures.done
    c.in-Ok.ensures.service c.in-Ok.ensures.area c.in-Ok.ensures.failed c.in-Ok.ensures.doubted c.in-Ok.ensures.current c.in-Ok.ensures.node
    c.in_ok-loaded.loaded.items
    (c.in_ok-loaded.ensures.items_if_clones_equal (λ x y e. e) ∙ c.octets.ensures.octets
    ∙ ap (λ (d : MemDiskState). d.disk.reads) (c.disk.ensures.disk ∙ ap (λ (j : JournalState MemDiskState). j.disk) c.journal.ensures))
    c.last_gates-end.result.end (subst (λ (xs : List ℕ). IsEndGate xs c.last_gates-end.result.end) c.as_slice.ensures.value c.last_gates-end.ensures.end))
