use Rattle.std.proofs.Common.{◌<◌, Option, IfSome, sym, subst}
use Rattle.coordinator.specs.Family.{Family, FamilyParts}
use Rattle.family_laws.specs.Reasons.{IsFounded}
use Rattle.family_laws.specs.Sound.{IsSoundFamily}
use Rattle.family_step.specs.Asking.{EntryIsCaused}
use Rattle.family_step.specs.Reserving.{IsStockedFor}
use Rattle.family_step.specs.declared.ready.Ready.{Ready}
use Rattle.family_step.proofs.Caused.{entry_caused}
use Rattle.family_step.proofs.Indexed.{index_after, there_after}
use Rattle.family_step.proofs.family.Family.step.Goals as goal

pub invariant_of-self : goal.invariant_of-self
invariant_of-self g c =
    let f = c.self.inside.state.family in
    let e = c.unwrap-ready.result.event in
    let stood = c.step_asking-answer.ensures.caused.stood in
    let is = c.step_asking-answer.ensures.caused.family_is in
    let none = sym c.take.ensures.after in
    record {
      serial = c.step_asking-answer.ensures.serial;
      sound = subst (λ (g : Family). IsSoundFamily g) (sym is) (c.families_stay_sound.ensures.steps f e stood c.self.invariant.sound);
      founded = subst (λ (g : Family). IsFounded g) (sym is) (c.families_have_causes.ensures.steps f e stood c.self.invariant.founded);
      there = there_after f e stood c.step_asking-answer.new.state.family c.histories_grow_by_entries.ensures is c.self.invariant.there;
      index = index_after f e stood c.step_asking-answer.new.state.family c.self.inside.callers.places c.note.new.self.places c.entries.result.now c.entry_count-place.result
          c.histories_grow_by_entries.ensures is c.self.invariant.there c.self.invariant.index c.entries.ensures c.entry_count-place.ensures.count c.note.ensures.noted;
      stocked = subst (λ (r : Option Ready). IsStockedFor c.step_asking-answer.new.state r) none tt;
      noted = subst (λ (r : Option Ready). IfSome r (λ (x : Ready). 0 < c.note.new.self.room)) none tt;
    }

pub returns-clause-cause : goal.returns-clause-cause
returns-clause-cause g c =
    let d = g.D.Disk in
    let told = d.told c.step_asking-answer.new.journal.disk in
    let before = d.faults c.args.journal.now.disk in
    let after = d.faults c.step_asking-answer.new.journal.disk in
    let later = c.step_asking-answer.new.state.family in
    subst (λ (p : FamilyParts). EntryIsCaused d.wants_memory told before after p.family.entries later.entries) c.self.view_is
    (entry_caused d.wants_memory told before after c.self.inside.state.family _ later c.step_asking-answer.ensures.caused c.histories_grow_by_entries.ensures)
