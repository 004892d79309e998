use Rattle.std.proofs.Common.{sym, ap, subst, ◌∙◌}
use Rattle.nodes_world.specs.Happenings.{all_finished_lines, finished_lines}
use Rattle.nodes_state.specs.Telling.{Tells}
use Rattle.nodes_state.proofs.Failing.{some_failed}
use Rattle.nodes_state.proofs.Progress.{telling_breaks}
use Rattle.nodes_state.proofs.Saying.{all_told, each_told, no_answer, says_answer}
use Rattle.nodes_state.proofs.telling.tell_finished.Goals as goal
use Rattle.nodes_state.proofs.telling.tell_finished.Goals.{in-Some+in_ok-tell_answered, in_default}

pub returns-in_err-tell_answered : goal.returns-in_err-tell_answered
returns-in_err-tell_answered c =
    some_failed (all_finished_lines c.args.entries.now c.args.finished.now) c.args.lines.now.items c.tell_answered.new.lines.items c.from_residual.result
    c.from_residual.ensures.0 (telling_breaks _ _ _ _ _ c.loop-answer.invariant c.in_err-tell_answered.ensures)

told : (c : goal.Joined-call_number) → Tells (finished_lines c.args.entries.now c.answer-item.result) c.loop-answer.lines.items c.match-call_number.lines.items
told c = elim c.match-call_number.branch [
  | in-Some+in_ok-tell_answered w ↦ says_answer c.args.entries.now c.answer-item.result w.in-Some.message c.loop-answer.lines.items c.match-call_number.lines.items
      (sym c.call_number.ensures ∙ w.in-Some.is) (ap (λ v. v.items) w.lines-is ∙ w.in_ok-tell_answered.ensures)
  | in_default w ↦ no_answer c.args.entries.now c.answer-item.result c.loop-answer.lines.items c.match-call_number.lines.items
      (sym c.call_number.ensures ∙ w.in_default.is) (ap (λ v. v.items) w.lines-is)
]

pub loop-answer-preserved : goal.loop-answer-preserved
loop-answer-preserved c =
    let all = c.args.finished.now in
    each_told (finished_lines c.args.entries.now) c.args.finished.now c.loop-answer.answer-index (all_finished_lines c.args.entries.now c.args.finished.now)
    c.args.lines.now.items c.loop-answer.lines.items c.answer-item.result c.match-call_number.lines.items c.loop-answer-test.true c.loop-answer.invariant
    (subst (λ a. Tells (finished_lines c.args.entries.now a) c.loop-answer.lines.items c.match-call_number.lines.items) c.answer-item.is (told c))

pub returns : goal.returns
returns c =
    all_told (finished_lines c.args.entries.now) c.args.finished.now c.loop-answer.answer-index (all_finished_lines c.args.entries.now c.args.finished.now)
    c.args.lines.now.items c.loop-answer.lines.items c.loop-answer-test.false c.loop-answer.invariant
