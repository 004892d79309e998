use Rattle.std.proofs.Common.{◌∙◌, ap, refl}
use Rattle.family_rules.specs.Room.{StateParts}
use Rattle.family_step.specs.Acting.{brings}
use Rattle.family_step.proofs.Entered.{entered_answer, entered_family, entered_words, later_is, said_is}
use Rattle.family_step.proofs.step.conclude.Goals as goal

pub returns-clause-family : goal.returns-clause-family
returns-clause-family c =
    let f = c.args.state.now.family in
    let r = c.args.ready in
    let a = brings f r.draft c.args.said in
    let says = said_is f a c.args.position r.draft.changes.finished c.args.said c.said_now-said.result c.requires.position refl refl c.said_now-said.ensures.said in
    let later = later_is f a c.args.position r.draft.changes.finished c.brought-brought.result.kept c.requires.position refl c.brought-brought.ensures.kept in
    entered_family f c.keep.new.self.family c.enter.new.self.family r.event c.args.stood a c.again-said_again.result c.brought-brought.result.kept
    (ap (λ (s : StateParts). s.family) c.keep.ensures.same) (ap (λ (s : StateParts). s.family.entries) c.keep.ensures.same)
    (c.again-said_again.ensures ∙ says) later c.enter.ensures.family

pub returns-clause-answer : goal.returns-clause-answer
returns-clause-answer c =
    let f = c.args.state.now.family in
    let r = c.args.ready in
    let a = brings f r.draft c.args.said in
    let says = said_is f a c.args.position r.draft.changes.finished c.args.said c.said_now-said.result c.requires.position refl refl c.said_now-said.ensures.said in
    let later = later_is f a c.args.position r.draft.changes.finished c.brought-brought.result.told c.requires.position refl c.brought-brought.ensures.told in
    entered_answer f r.event c.args.stood a c.args.position c.said_now-said.result c.brought-brought.result.told c.brought-brought.result.effects c.requires.position says later
    c.brought-brought.ensures.effects

pub returns-clause-words : goal.returns-clause-words
returns-clause-words c =
    let f = c.args.state.now.family in
    entered_words f c.args.ready.event c.args.stood (brings f c.args.ready.draft c.args.said) c.args.out.now.words c.put_word.new.out.words _ c.brought-brought.ensures.word c.put_word.ensures
