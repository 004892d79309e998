use Rattle.std.proofs.Common.{Option, None, refl, sym, subst}
use Rattle.coordinator.specs.Step.{Wanted}
use Rattle.family_step.specs.Asking.{IsAsked}
use Rattle.family_step.proofs.Heard.{nothing_wanted}
use Rattle.family_step.proofs.asking.step_asking.Goals as goal

pub returns-in-None-clause-stepped : goal.returns-in-None-clause-stepped
returns-in-None-clause-stepped g c =
    let none = nothing_wanted c.args.ready.event c.args.state.now.family (sym c.in-None.ensures) c.requires.given in
    record {
      stood = None;
      asked = subst (λ (o : Option Wanted). IsAsked g.D.Disk.told g.D.Disk.faults o c.args.journal.now c.args.journal.now None) (sym none) (refl, refl);
      family_is = c.step.ensures.family;
      answer_is = c.step.ensures.answer;
      words_are = c.step.ensures.words;
    }

pub returns-in-None-clause-caused : goal.returns-in-None-clause-caused
returns-in-None-clause-caused g c = record { stood = None; family_is = c.step.ensures.family; caused = tt }
