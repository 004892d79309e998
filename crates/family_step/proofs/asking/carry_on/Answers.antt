use Rattle.std.proofs.Common.{◌∙◌, ◌<◌, ◌++◌, refl, ap, sym, subst, ℕ, length, Option}
use Rattle.coordinator.specs.Hearing.{settles}
use Rattle.coordinator.specs.Limits.{history_limit}
use Rattle.coordinator.specs.Moves.{Moved, ◌▹◌}
use Rattle.coordinator.specs.Running.{goes_on}
use Rattle.coordinator.specs.Step.{Stepped, Wanted}
use Rattle.coordinator.specs.NodeCalls.{answer_of}
use Rattle.coordinator.specs.Table.{Acted, does}
use Rattle.coordinator.specs.declared.said.Said.TheVariants as said
use Rattle.std.specs.Option.{option_map}
use Rattle.std.specs.Vec.{vec_items}
use Rattle.family_step.specs.Asking.{HasVoters, IsAsked, hears_act}
use Rattle.family_step.proofs.Entered.{all_of, answer_same, entered_same, room_for}
use Rattle.family_step.proofs.Heard.{heard_acts, heard_steps, heard_wants, new_call, waits}
use Rattle.family_step.proofs.Naming.{has_voters}
use Rattle.family_step.proofs.Steady.{acts_keep}
use Rattle.family_step.proofs.asking.carry_on.Goals as goal

pub hear_and_go_on-stood-requires-clause-waits : goal.hear_and_go_on-stood-requires-clause-waits
hear_and_go_on-stood-requires-clause-waits g c = waits c.args.ready.event c.args.state.now.family c.args.branch c.requires.hearer

pub hear_and_go_on-stood-requires-clause-named : goal.hear_and_go_on-stood-requires-clause-named
hear_and_go_on-stood-requires-clause-named g c = λ wants.
    let e = c.args.ready.event in
    let f = c.args.state.now.family in
    subst (λ (o : _). HasVoters (option_map vec_items o) (hears_act e.act c.args.branch f).family) (sym c.take.ensures.value)
    (has_voters e f c.args.branch c.requires.hearer c.requires.sound c.the_last_answer_decides.ensures _ c.requires.ready.ready.named wants)

pub conclude-requires-clause-position : goal.conclude-requires-clause-position
conclude-requires-clause-position g c =
    let e = c.args.ready.event in
    let f = c.args.state.now.family in
    let stood = c.hear_and_go_on-stood.result in
    let kept = ap (λ (a : Acted). a.moved.family.entries) (sym (heard_acts e f c.args.branch c.requires.hearer stood)) ∙ acts_keep e stood f in
    let same = ap (λ (m : Moved). m.family.entries) c.hear_and_go_on-stood.ensures.does ∙ kept in
    c.entry_count-position.ensures.count ∙ ap (λ xs. length xs) (sym same)

pub conclude-requires-clause-few : goal.conclude-requires-clause-few
conclude-requires-clause-few g c =
    let e = c.args.ready.event in
    let f = c.args.state.now.family in
    let stood = c.hear_and_go_on-stood.result in
    let kept = ap (λ (a : Acted). a.moved.family.entries) (sym (heard_acts e f c.args.branch c.requires.hearer stood)) ∙ acts_keep e stood f in
    let same = ap (λ (m : Moved). m.family.entries) c.hear_and_go_on-stood.ensures.does ∙ kept in
    subst (λ (n : ℕ). n < history_limit) (ap (λ xs. length xs) (sym same)) (room_for f.entries e c.requires.ready.fits (new_call e f c.args.branch c.requires.hearer))

pub returns-clause-stepped : goal.returns-clause-stepped
returns-clause-stepped g c =
    let e = c.args.ready.event in
    let f = c.args.state.now.family in
    let b = c.args.branch in
    let is = c.requires.hearer in
    let stood = c.hear_and_go_on-stood.result in
    let m = hears_act e.act b f ▹ settles stood ▹ goes_on b in
    let a = does said.Plain m in
    let later = c.hear_and_go_on-stood.new.state.family in
    let k = c.hear_and_go_on-stood.new.out in
    let all = all_of f later c.args.ready.draft k m c.requires.ready.ready.nothing c.hear_and_go_on-stood.ensures.does in
    let kept = ap (λ (x : Acted). x.moved.family.entries) (sym (heard_acts e f b is stood)) ∙ acts_keep e stood f in
    let same = ap (λ (x : Moved). x.family.entries) c.hear_and_go_on-stood.ensures.does ∙ kept in
    let steps = entered_same f later e stood k said.Plain a all refl same ∙ sym (heard_steps e f b is stood) in
    record {
      stood = stood;
      asked = subst (λ (o : Option Wanted). IsAsked g.D.Disk.told g.D.Disk.faults o c.args.journal.now c.hear_and_go_on-stood.new.journal stood)
          (sym (heard_wants e f b is)) c.hear_and_go_on-stood.ensures.asked;
      family_is = c.conclude.ensures.family ∙ ap (λ (s : Stepped). s.family) steps;
      answer_is = c.conclude.ensures.answer ∙ answer_same f later e stood k said.Plain a all refl same
          ∙ ap (λ (s : Stepped). answer_of f s) (sym (heard_steps e f b is stood));
      words_are = c.conclude.ensures.words ∙ ap (λ (s : Stepped). c.args.out.now.words ++ s.words) steps;
    }

pub returns-clause-caused : goal.returns-clause-caused
returns-clause-caused g c =
    let e = c.args.ready.event in
    let f = c.args.state.now.family in
    let b = c.args.branch in
    let is = c.requires.hearer in
    let stood = c.hear_and_go_on-stood.result in
    let m = hears_act e.act b f ▹ settles stood ▹ goes_on b in
    let later = c.hear_and_go_on-stood.new.state.family in
    let kept = ap (λ (x : Acted). x.moved.family.entries) (sym (heard_acts e f b is stood)) ∙ acts_keep e stood f in
    let same = ap (λ (x : Moved). x.family.entries) c.hear_and_go_on-stood.ensures.does ∙ kept in
    let all = all_of f later c.args.ready.draft c.hear_and_go_on-stood.new.out m c.requires.ready.ready.nothing c.hear_and_go_on-stood.ensures.does in
    let steps = entered_same f later e stood c.hear_and_go_on-stood.new.out said.Plain (does said.Plain m) all refl same ∙ sym (heard_steps e f b is stood) in
    record {
      stood = stood;
      family_is = c.conclude.ensures.family ∙ ap (λ (s : Stepped). s.family) steps;
      caused = c.hear_and_go_on-stood.ensures.cause;
    }
