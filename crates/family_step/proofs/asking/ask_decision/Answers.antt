use Rattle.std.proofs.Common.{◌∙◌, inl, inr, ℕ, List, refl, sym, ap, subst}
use Rattle.decision_journal.specs.Calls.{HasAppended, IsRefusedAppend}
use Rattle.decision_journal.specs.Layout.{FitsRegistrations}
use Rattle.decision_journal.specs.declared.record.JournalRecord.{JournalRecord}
use Rattle.decision_journal.specs.declared.record.Registration.{Registration}
use Rattle.family_step.specs.Asking as asking
use Rattle.family_step.specs.Asking.{IsCaused}
use Rattle.ots_model.specs.declared.completion.Stood.{Stood}
use Rattle.family_step.proofs.Caused.{append_caused}
use Rattle.family_step.proofs.Recorded.{decided_by, fits_filtered}
use Rattle.family_step.proofs.asking.ask_decision.Goals as goal

pub decision-item-requires : goal.decision-item-requires
decision-item-requires g c = record {
  fits = subst (λ (rs : List Registration). FitsRegistrations rs) (sym c.keep_named.ensures) (fits_filtered _ c.args.named.items c.requires.voters.fits);
}

pub returns-in-Ok-clause-answered : goal.returns-in-Ok-clause-answered
returns-in-Ok-clause-answered g c =
    let is = c.decision-item.ensures.record ∙ decided_by c.args.state.now.family _ (c.keep_named.ensures ∙ c.requires.voters.voters) in
    inl (record {
      place = c.in-Ok.place;
      appended = subst (λ (r : JournalRecord). HasAppended g.D.Disk.told c.args.journal.now r c.append.new.self c.in-Ok.place) is c.in-Ok.ensures.more;
      stood_is = refl;
    })

pub returns-in-Err-clause-answered : goal.returns-in-Err-clause-answered
returns-in-Err-clause-answered g c =
    let is = c.decision-item.ensures.record ∙ decided_by c.args.state.now.family _ (c.keep_named.ensures ∙ c.requires.voters.voters) in
    let counts = g.D.Disk.faults in
    inr (record {
      fault = c.in-Err.fault;
      left = subst (λ (r : JournalRecord). IsRefusedAppend g.D.Disk.told c.args.journal.now r c.append.new.self c.in-Err.fault) is c.in-Err.ensures.refused;
      stood_is =
          c.stood_by.ensures
          ∙ ap (λ (n : ℕ). asking.stood_by c.in-Err.fault n c.fault_count.result) (c.fault_count-before.ensures ∙ ap counts c.disk.ensures.disk)
          ∙ ap (λ (n : ℕ). asking.stood_by c.in-Err.fault (counts c.args.journal.now.disk) n) (c.fault_count.ensures ∙ ap counts c.disk-in-Err.ensures.disk);
    })

pub returns-in-Err-clause-cause : goal.returns-in-Err-clause-cause
returns-in-Err-clause-cause g c =
    let d = g.D.Disk in
    let wants = d.wants_memory in
    let told = d.told c.append.new.self.disk in
    let before = d.faults c.args.journal.now.disk in
    let after = d.faults c.append.new.self.disk in
    subst (λ (stood : Stood). IsCaused wants told before after stood) (sym c.stood_by.ensures)
    (append_caused wants told before after c.fault_count-before.result c.fault_count.result c.in-Err.fault c.in-Err.ensures.fault)
