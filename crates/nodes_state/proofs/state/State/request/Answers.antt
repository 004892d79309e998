use Rattle.std.proofs.Common.{ℕ, List, length, Err, map, sym, ap, ◌∙◌}
use Rattle.std.proofs.lemmas.List.{length_push}
use Rattle.std.proofs.lemmas.Result.{err_from_is_err_and}
use Rattle.nodes_world.specs.declared.message.Content.TheVariants as contents
use Rattle.nodes_world.specs.declared.message.Message.{Message}
use Rattle.nodes_world.specs.Happenings.{new_message, requests}
use Rattle.nodes_parts.specs.Referring.{named, referred_in}
use Rattle.nodes_state.specs.Seated.{seat_of}
use Rattle.nodes_state.specs.Shown.{shown}
use Rattle.nodes_state.proofs.Requested.{request_fails, request_told, request_untold}
use Rattle.nodes_state.proofs.state.State.request.Goals as goal

pub returns-in_err-number-clause-does : goal.returns-in_err-number-clause-does
returns-in_err-number-clause-does c =
    let p = err_from_is_err_and c.from_residual.result c.from_residual.ensures.1 in
    request_fails c.args.place c.args.outward (shown c.args.self.now) (shown (record c.args.self.now { messages = c.send.new.self })) c.args.lines.now.items
    c.from_residual.result c.in_err-number.field-0.0 (p.1 ∙ ap Err p.2) c.in_err-number.ensures.refused

pub returns-in_ok-tell_sent-clause-does : goal.returns-in_ok-tell_sent-clause-does
unfolding requests
returns-in_ok-tell_sent-clause-does c =
    let m : List Message = c.args.self.now.messages in
    let there = sym (c.requires.names.references c.args.outward.to)
    ∙ ap (λ (to : List ℕ). referred_in c.args.self.now.names.referred to) (sym c.bytes.ensures.same) ∙ sym c.in-Some.ensures.referred in
    let number = c.in_ok-number.ensures.number ∙ ap (λ (ms : List Message). length ms) c.in_ok-number.ensures.sent
    ∙ length_push m (new_message (contents.Request c.args.place c.args.outward)) in (
      ap (λ (ms : List Message). record { seats = map seat_of c.args.self.now.seats.items; messages = ms; names = c.args.self.now.names.things }) c.in_ok-number.ensures.sent,
      request_told c.args.place c.in_ok-number.number c.args.outward (shown c.args.self.now) (named c.in-Some.named) c.args.lines.now.items
          c.tell_sent.new.lines.items there number c.in_ok-tell_sent.ensures,
    )

pub returns-in_default-clause-does : goal.returns-in_default-clause-does
unfolding requests
returns-in_default-clause-does c =
    let none = sym (c.requires.names.references c.args.outward.to)
    ∙ ap (λ (to : List ℕ). referred_in c.args.self.now.names.referred to) (sym c.bytes.ensures.same) ∙ sym c.in_default.ensures.referred in (
      ap (λ (ms : List Message). record { seats = map seat_of c.args.self.now.seats.items; messages = ms; names = c.args.self.now.names.things }) c.in_ok-number.ensures.sent,
      request_untold c.args.place c.args.outward (shown c.args.self.now) c.args.lines.now.items none,
    )
