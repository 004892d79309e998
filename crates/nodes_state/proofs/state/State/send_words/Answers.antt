use Rattle.std.proofs.Common.{Err, sym, ap, ◌∙◌}
use Rattle.std.proofs.lemmas.Result.{err_from_is_err_and}
use Rattle.recovery_coord.specs.Outbox.{OutboxParts}
use Rattle.nodes_world.specs.Happenings.{requests_all}
use Rattle.nodes_state.specs.Shown.{shown}
use Rattle.nodes_state.proofs.Named.{names_stay}
use Rattle.nodes_state.proofs.Requested.{words_break, words_end, words_go_on}
use Rattle.nodes_state.proofs.state.State.send_words.Goals as goal

pub loop-outward-preserved : goal.loop-outward-preserved
loop-outward-preserved c =
    let before = c.loop-outward.invariant in
    let same = c.in_ok-request.ensures.same in
    record {
      doing = words_go_on (requests_all c.args.place c.args.words.words (shown c.args.self.now)) c.args.lines.now.items c.args.place c.loop-outward.words.words
          (shown c.loop-outward.self) c.loop-outward.lines.items c.take.new.self.words c.in-Some.outward (shown c.request.new.self) c.request.new.lines.items
          before.doing (sym c.in-Some.ensures.first) (ap (λ (o : OutboxParts). o.words) c.take.ensures.rest) c.in_ok-request.ensures.does;
      names = names_stay c.loop-outward.self c.request.new.self same before.names;
      same = record { seats = same.seats ∙ before.same.seats; names = same.names ∙ before.same.names };
    }

pub returns-in_err-request-clause-does : goal.returns-in_err-request-clause-does
returns-in_err-request-clause-does c =
    let p = err_from_is_err_and c.from_residual.result c.from_residual.ensures.1 in
    words_break (requests_all c.args.place c.args.words.words (shown c.args.self.now)) c.args.lines.now.items c.args.place c.loop-outward.words.words
    (shown c.loop-outward.self) c.loop-outward.lines.items c.in-Some.outward (shown c.request.new.self) c.request.new.lines.items c.from_residual.result
    c.in_err-request.field-0.0 (p.1 ∙ ap Err p.2) c.loop-outward.invariant.doing (sym c.in-Some.ensures.first) c.in_err-request.ensures.does

pub returns-clause-does : goal.returns-clause-does
returns-clause-does c =
    words_end (requests_all c.args.place c.args.words.words (shown c.args.self.now)) c.args.lines.now.items c.args.place c.loop-outward.words.words
    (shown c.loop-outward.self) c.loop-outward.lines.items c.loop-outward.invariant.doing (sym c.in_default.ensures.first)
