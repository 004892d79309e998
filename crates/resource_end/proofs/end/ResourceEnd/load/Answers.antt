use Rattle.std.proofs.Common.{◌∙◌, inr, true, None, ap, sym, subst}
use Rattle.ots_outside.specs.Disk.{Tells}
use Rattle.decision_journal.specs.Asking.{AsksLoad}
use Rattle.decision_journal.specs.Index.{AreInOrder}
use Rattle.decision_journal.specs.State.{IsWithinArea}
use Rattle.resource_end.specs.declared.fault.EndFault.{EndFault}
use Rattle.resource_end.specs.Faults.{AsksRefusedLoad, IsNoFault, IsRefusedLoad}
use Rattle.resource_end.specs.End.{End}
use Rattle.resource_end.specs.Recall.{new_end, recalls_all}
use Rattle.resource_end.proofs.Crashing.{load_makes}
use Rattle.resource_end.proofs.Refused.{begun_so, calm_so, refused_so}
use Rattle.resource_end.proofs.Staying.{loaded_on_record}
use Rattle.resource_end.proofs.Writing.{seen}
use Rattle.resource_end.proofs.end.ResourceEnd.load.Goals as goal

pub returns-in-Ok-load_all-clause-end : goal.returns-in-Ok-load_all-clause-end
returns-in-Ok-load_all-clause-end g c =
    let known : End = new_end c.args.service c.in-Ok.journal.found.life in
    (λ i. record {
      service = c.in-Ok.ensures.service i;
      life = c.in-Ok.journal.found.life;
      drawn = 0;
      resources = c.in-Ok-load_all.contents.resources;
      cells = c.in-Ok-load_all.contents.cells;
      doubted = c.in-Ok.ensures.doubted i;
      changed = None;
    })
    ∙ sym (c.in-Ok-load_all.ensures.contents known)
    ∙ ap (λ xs. recalls_all xs known) c.standing.ensures.same

pub returns-in-Ok-load_all-clause-made : goal.returns-in-Ok-load_all-clause-made
returns-in-Ok-load_all-clause-made g c =
    load_makes c.octets_stand_for_one_list.ensures c.args.service c.in-Ok.journal.area c.in-Ok.journal.octets c.in-Ok.journal.found (g.D.Disk.told c.args.disk) (g.D.Disk.told c.in-Ok.journal.disk) _
    (subst (λ n. IsWithinArea c.in-Ok.journal.area n c.in-Ok.journal.octets c.in-Ok.journal.found) c.in-Ok.ensures.service c.in-Ok.ensures.current.within)
    c.in-Ok.ensures.current.rest c.in-Ok.ensures.done (returns-in-Ok-load_all-clause-end g c)

pub returns-in-Ok-load_all-clause-stays : goal.returns-in-Ok-load_all-clause-stays
returns-in-Ok-load_all-clause-stays g c =
    loaded_on_record (seen c.in-Ok.journal 0 c.in-Ok-load_all.contents None) c.args.service (returns-in-Ok-load_all-clause-end g c) c.in-Ok.ensures.service
    c.in-Ok.ensures.current.within.filled c.in-Ok.ensures.doubted c.in-Ok.ensures.failed

pub load_all-requires-clause-order : goal.load_all-requires-clause-order
load_all-requires-clause-order g c = subst AreInOrder (sym c.standing.ensures.same) c.standing.ensures.order

pub returns-in-Err-clause-refused : goal.returns-in-Err-clause-refused
returns-in-Err-clause-refused g c =
    let a = g.D.Disk.told c.args.disk in
    let b = g.D.Disk.told c.in-Err.back.value in
    subst (λ (fault : EndFault). Tells a b (IsRefusedLoad c.args.service fault)) (sym c.of_load.ensures)
    (refused_so c.args.service a b c.in-Err.back.fault c.in-Err.ensures.refused)

pub returns-in-Err-clause-calm_err : goal.returns-in-Err-clause-calm_err
returns-in-Err-clause-calm_err g c =
    let before = g.D.Disk.faults c.args.disk in
    let after = g.D.Disk.faults c.in-Err.back.value in
    subst (λ (fault : EndFault). IsNoFault fault before after) (sym c.of_load.ensures) (calm_so c.in-Err.back.fault before after c.in-Err.ensures.calm_err)

pub returns-in-Err-clause-begun_err : goal.returns-in-Err-clause-begun_err
returns-in-Err-clause-begun_err g c =
    let asked = g.D.Disk.asked in
    let told = g.D.Disk.told in
    subst (λ (fault : EndFault). AsksRefusedLoad asked told c.args.service fault c.args.disk c.in-Err.back.value) (sym c.of_load.ensures)
    (begun_so asked told c.args.service c.args.disk c.in-Err.back.value c.in-Err.back.fault c.in-Err.ensures.begun)

pub returns-in-Err-load_all-clause-begun_err : goal.returns-in-Err-load_all-clause-begun_err
returns-in-Err-load_all-clause-begun_err g c =
    inr (subst (AsksLoad g.D.Disk.asked g.D.Disk.told c.args.service true c.args.disk) (sym c.into_disk.ensures) c.in-Ok.ensures.asked)
