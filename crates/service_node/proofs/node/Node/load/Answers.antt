use Rattle.std.proofs.Common.{◌≡◌, ℕ, sym, subst}
use Rattle.ots_outside.specs.Disk.{Tells}
use Rattle.decision_journal.specs.Journal.{IsFilled}
use Rattle.coordinator.specs.Node.{Node, loaded_node}
use Rattle.coordinator.specs.declared.node.NodeFault.{NodeFault}
use Rattle.service_node.specs.Faults.{AsksRefusedLoad, IsNoFault, IsRefusedLoad}
use Rattle.service_node.specs.NodeState.{IsBegun, node_of}
use Rattle.service_node.proofs.Begun.{begun_told}
use Rattle.service_node.proofs.Refused.{begun_so, calm_so, refused_so, starved_so}
use Rattle.service_node.proofs.Whole.{loaded_together}
use Rattle.service_node.proofs.node.Node.load.Goals as goal

pub invariant_of-result : goal.invariant_of-result
invariant_of-result g c =
    loaded_together c.in-Ok.journal c.in-Ok-from.recovered c.in-Ok-empty.slots c.in-Ok-from.ensures.service c.in-Ok-from.ensures.life
    c.in-Ok-from.ensures.records c.in-Ok-empty.ensures c.in-Ok.ensures.doubted

pub returns-in-Ok-from-clause-begun : goal.returns-in-Ok-from-clause-begun
returns-in-Ok-from-clause-begun g c =
    let journal = c.in-Ok.journal in
    let same : node_of journal.service journal.found c.in-Ok-from.recovered.records c.in-Ok-empty.slots 255 0 ≡ loaded_node c.args.service journal.found =
    λ i. record {
      service = c.in-Ok.ensures.service i;
      found = journal.found;
      recovered = c.in-Ok-from.ensures.records i;
      families = c.in-Ok-empty.ensures i;
      last = 255;
      generation = 0;
    } in
    subst (λ (n : Node). Tells (g.D.Disk.told c.args.disk) (g.D.Disk.told journal.disk) (IsBegun c.args.service n)) (sym same)
    (begun_told c.octets_stand_for_one_list.ensures c.args.service journal.octets journal.found (g.D.Disk.told c.args.disk) (g.D.Disk.told journal.disk)
    c.in-Ok.ensures.done
    (subst (λ (s : ℕ). IsFilled s journal.octets journal.found) c.in-Ok.ensures.service c.in-Ok.ensures.current.within.filled)
    c.in-Ok.ensures.current.rest)

pub returns-in-Err-clause-refused : goal.returns-in-Err-clause-refused
returns-in-Err-clause-refused g c =
    let a = g.D.Disk.told c.args.disk in
    let b = g.D.Disk.told c.in-Err.back.value in
    subst (λ (fault : NodeFault). Tells a b (IsRefusedLoad c.args.service fault)) (sym c.load_fault.ensures)
    (refused_so c.args.service a b c.in-Err.back.fault c.in-Err.ensures.refused)

pub returns-in-Err-clause-calm_err : goal.returns-in-Err-clause-calm_err
returns-in-Err-clause-calm_err g c =
    let before = g.D.Disk.faults c.args.disk in
    let after = g.D.Disk.faults c.in-Err.back.value in
    subst (λ (fault : NodeFault). IsNoFault fault before after) (sym c.load_fault.ensures) (calm_so c.in-Err.back.fault before after c.in-Err.ensures.calm_err)

pub returns-in-Err-clause-begun_err : goal.returns-in-Err-clause-begun_err
returns-in-Err-clause-begun_err g c =
    let asked = g.D.Disk.asked in
    let told = g.D.Disk.told in
    subst (λ (fault : NodeFault). AsksRefusedLoad asked told c.args.service fault c.args.disk c.in-Err.back.value) (sym c.load_fault.ensures)
    (begun_so asked told c.args.service c.args.disk c.in-Err.back.value c.in-Err.back.fault c.in-Err.ensures.begun)

pub returns-in-Err-empty-clause-begun_err : goal.returns-in-Err-empty-clause-begun_err
returns-in-Err-empty-clause-begun_err g c = starved_so g.D.Disk.asked g.D.Disk.told c.args.service c.args.disk _ _ _ c.starved.ensures.fault c.starved.ensures.disk c.in-Ok.ensures.asked

pub returns-in-Err-from-clause-begun_err : goal.returns-in-Err-from-clause-begun_err
returns-in-Err-from-clause-begun_err g c =
    starved_so g.D.Disk.asked g.D.Disk.told c.args.service c.args.disk _ _ _ c.starved-in-Err-from.ensures.fault c.starved-in-Err-from.ensures.disk c.in-Ok.ensures.asked
