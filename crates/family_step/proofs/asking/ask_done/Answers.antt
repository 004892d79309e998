use Rattle.std.proofs.Common.{inr, sym, subst, ap, ◌∙◌}
use Rattle.ots_model.specs.declared.completion.Stood.{Stood}
use Rattle.family_step.specs.Asking.{IsCaused, stood_by}
use Rattle.family_step.proofs.Caused.{done_caused, done_roomy}
use Rattle.family_step.proofs.asking.ask_done.Goals as goal

pub returns-in-Err-clause-answered : goal.returns-in-Err-clause-answered
returns-in-Err-clause-answered g c =
    let d = g.D.Disk in
    let before = d.faults c.args.journal.now.disk in
    let after = d.faults c.done.new.self.disk in
    inr (record {
      fault = c.in-Err.fault;
      left = c.in-Err.ensures.refused;
      stood_is = c.stood_by.ensures
          ∙ ap (λ a. stood_by c.in-Err.fault a c.fault_count.result) (c.fault_count-before.ensures ∙ ap d.faults c.disk.ensures.disk)
          ∙ ap (λ a. stood_by c.in-Err.fault before a) (c.fault_count.ensures ∙ ap d.faults c.disk-in-Err.ensures.disk);
      roomy = done_roomy d.wants_memory (d.told c.done.new.self.disk) before after c.in-Err.fault c.in-Err.ensures.fault;
    })

pub returns-in-Err-clause-cause : goal.returns-in-Err-clause-cause
returns-in-Err-clause-cause g c =
    let d = g.D.Disk in
    let wants = d.wants_memory in
    let told = d.told c.done.new.self.disk in
    let before = d.faults c.args.journal.now.disk in
    let after = d.faults c.done.new.self.disk in
    subst (λ (stood : Stood). IsCaused wants told before after stood) (sym c.stood_by.ensures)
    (done_caused wants told before after c.fault_count-before.result c.fault_count.result c.in-Err.fault c.in-Err.ensures.fault)
