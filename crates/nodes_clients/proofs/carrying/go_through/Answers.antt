use Rattle.std.proofs.Common.{Err, ap, ◌∙◌}
use Rattle.std.proofs.lemmas.Result.{err_from_is_err_and}
use Rattle.nodes_world.specs.Happenings.{requests_all, tells}
use Rattle.nodes_state.specs.Shown.{shown}
use Rattle.nodes_state.proofs.Doing.{breaks_later, part_first}
use Rattle.nodes_clients.specs.Carrying.{passed_lines, passes}
use Rattle.nodes_clients.proofs.Answered.{carry_fails, carry_starves}
use Rattle.nodes_clients.proofs.carrying.go_through.Goals as goal

pub returns-in_err-tell_passed-clause-carried : goal.returns-in_err-tell_passed-clause-carried
returns-in_err-tell_passed-clause-carried c = λ w n names up.
    let p = err_from_is_err_and c.from_residual.result c.from_residual.ensures.1 in
    let some = passed_lines w c.args.key.now c.args.event.now n c.args.recorded c.args.passed.answer in
    carry_starves (passes some c.args.place c.args.passed.words.words c.args.passed.answer (shown c.args.state.now)) (shown c.args.state.now)
    c.args.lines.now.items c.tell_passed.new.lines.items c.from_residual.result p.0 p.1 p.2
    (part_first some (requests_all c.args.place c.args.passed.words.words (shown c.args.state.now)).lines c.args.lines.now.items
    c.tell_passed.new.lines.items (c.in_err-tell_passed.ensures w n names up))

pub returns-in_err-send_words-clause-carried : goal.returns-in_err-send_words-clause-carried
returns-in_err-send_words-clause-carried c = λ w n names up.
    let p = err_from_is_err_and c.from_residual-in_err-send_words.result c.from_residual-in_err-send_words.ensures.1 in
    let some = passed_lines w c.args.key.now c.args.event.now n c.args.recorded c.args.passed.answer in
    let fault = c.in_err-send_words.field-0.0 in
    carry_fails (passes some c.args.place c.args.passed.words.words c.args.passed.answer (shown c.args.state.now)) (shown c.send_words.new.self)
    c.args.lines.now.items c.send_words.new.lines.items c.from_residual-in_err-send_words.result fault (p.1 ∙ ap Err p.2)
    (breaks_later (tells some (shown c.args.state.now)) (λ v. requests_all c.args.place c.args.passed.words.words v) fault c.args.lines.now.items
    c.tell_passed.new.lines.items c.send_words.new.lines.items (c.in_ok-tell_passed.ensures w n names up) c.in_err-send_words.ensures.does)
