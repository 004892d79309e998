use Rattle.std.proofs.Common.{◌∙◌, ◌≤◌, List, length, refl, subst}
use Rattle.coordinator.specs.declared.said.Finished.{Finished}
use Rattle.family_step.specs.Callers.{AreAnswered}
use Rattle.family_step.proofs.Indexed.{take_past, told_first, told_next}
use Rattle.family_step.proofs.callers.Callers.note_answers.Goals as goal

pub loop-answer-init : goal.loop-answer-init
loop-answer-init c = record {
  answered = told_first c.args.entries.now c.args.answers.now c.args.place c.args.self.now.places;
  room = refl;
}

pub loop-answer-preserved : goal.loop-answer-preserved
loop-answer-preserved c = record {
  answered = told_next c.args.entries.now c.args.answers.now c.args.place c.loop-answer.answer-index c.answer-item.result
      c.args.self.now.places c.loop-answer.self.places c.note_answer.new.self.places c.loop-answer-test.true c.answer-item.is
      c.loop-answer.invariant.answered c.note_answer.ensures.answered;
  room = c.note_answer.ensures.room ∙ c.loop-answer.invariant.room;
}

pub returns-clause-answered : goal.returns-clause-answered
returns-clause-answered c =
    let answers = c.args.answers.now in
    let past : length answers ≤ c.loop-answer.answer-index = c.loop-answer-test.false in
    subst (λ (xs : List Finished). AreAnswered c.args.entries.now xs c.args.place c.args.self.now.places c.loop-answer.self.places)
    (take_past c.loop-answer.answer-index answers past) c.loop-answer.invariant.answered
