use Rattle.std.proofs.Common.{List, Err, map, ap, ◌∙◌}
use Rattle.std.proofs.lemmas.Result.{err_from_is_err_and}
use Rattle.nodes_world.specs.declared.message.Message.{Message}
use Rattle.nodes_world.specs.Happenings.{replies}
use Rattle.nodes_state.specs.Seated.{seat_of}
use Rattle.nodes_state.specs.Shown.{shown}
use Rattle.nodes_state.proofs.Requested.{reply_fails, reply_told}
use Rattle.nodes_state.proofs.state.State.reply.Goals as goal

pub returns-in_err-send-clause-does : goal.returns-in_err-send-clause-does
returns-in_err-send-clause-does c =
    let p = err_from_is_err_and c.from_residual-in_err-send.result c.from_residual-in_err-send.ensures.1 in
    reply_fails c.args.request c.next_number.result c.args.said (shown c.args.self.now) (shown (record c.args.self.now { messages = c.send.new.self }))
    c.args.lines.now.items c.tell_back.new.lines.items c.from_residual-in_err-send.result c.in_err-send.field-0.0 (p.1 ∙ ap Err p.2) c.in_err-send.ensures.refused
    c.next_number.ensures.number c.in_ok-tell_back.ensures

pub returns-clause-does : goal.returns-clause-does
unfolding replies
returns-clause-does c = (
  ap (λ (m : List Message). record { seats = map seat_of c.args.self.now.seats.items; messages = m; names = c.args.self.now.names.things }) c.in_ok-send.ensures.sent,
  reply_told c.args.request c.next_number.result c.args.said (shown c.args.self.now) c.args.lines.now.items c.tell_back.new.lines.items
      c.next_number.ensures.number c.in_ok-tell_back.ensures,
)
