use Rattle.std.proofs.Common.{Err, ap, ◌∙◌}
use Rattle.std.proofs.lemmas.Result.{err_from_is_err_and}
use Rattle.nodes_world.specs.Happenings.{requests_all}
use Rattle.nodes_state.specs.Shown.{shown}
use Rattle.nodes_state.proofs.Failing.{does_fail}
use Rattle.nodes_state.proofs.Named.{names_stay}
use Rattle.nodes_seats.proofs.Waits.{rest_waits, sending_breaks, sending_ends, sending_goes_on}
use Rattle.nodes_seats.proofs.ticking.send_words_of.Goals as goal

pub loop-outward-preserved : goal.loop-outward-preserved
loop-outward-preserved c =
    let before = c.loop-outward.invariant in
    let same = c.in_ok-request.ensures.same in
    record {
      primed = c.in-Some.ensures.primed;
      names = names_stay c.loop-outward.state c.request.new.self same before.names;
      same = record { seats = same.seats ∙ before.same.seats; names = same.names ∙ before.same.names };
      sending = λ own rest split.
          sending_goes_on c.args.slot c.args.place own rest (shown c.args.state.now) c.args.lines.now.items c.loop-outward.words (shown c.loop-outward.state)
          c.loop-outward.lines.items (before.sending own rest split) c.take_of.new.self c.in-Some.outward c.in-Some.ensures.words c.in-Some.ensures.taken
          (shown c.request.new.self) c.request.new.lines.items c.in_ok-request.ensures.does;
    }

pub returns-in_err-request-clause-does : goal.returns-in_err-request-clause-does
returns-in_err-request-clause-does c = λ own rest split.
    let p = err_from_is_err_and c.from_residual.result c.from_residual.ensures.1 in
    does_fail (requests_all c.args.place own (shown c.args.state.now)) (shown c.request.new.self) c.args.lines.now.items c.request.new.lines.items
    c.from_residual.result c.in_err-request.field-0.0 (p.1 ∙ ap Err p.2)
    (sending_breaks c.args.slot c.args.place own rest (shown c.args.state.now) c.args.lines.now.items c.loop-outward.words (shown c.loop-outward.state)
    c.loop-outward.lines.items (c.loop-outward.invariant.sending own rest split) c.take_of.new.self c.in-Some.outward c.in-Some.ensures.words
    c.in-Some.ensures.taken c.in_err-request.field-0.0 c.request.new.lines.items c.in_err-request.ensures.does)

pub returns-clause-does : goal.returns-clause-does
returns-clause-does c = λ own rest split.
    sending_ends c.args.slot c.args.place own rest (shown c.args.state.now) c.args.lines.now.items c.loop-outward.words (shown c.loop-outward.state)
    c.loop-outward.lines.items (c.loop-outward.invariant.sending own rest split) c.take_of.new.self c.in_default.ensures.words c.in_default.ensures.taken

pub returns-clause-rest : goal.returns-clause-rest
returns-clause-rest c = λ own rest split.
    rest_waits c.args.slot c.args.place own rest (shown c.args.state.now) c.args.lines.now.items c.loop-outward.words (shown c.loop-outward.state)
    c.loop-outward.lines.items (c.loop-outward.invariant.sending own rest split) c.take_of.new.self c.in_default.ensures.words c.in_default.ensures.taken
