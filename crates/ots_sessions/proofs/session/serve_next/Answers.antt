use Rattle.std.proofs.Common.{refl, subst, Ok}
use Rattle.giop_streams.specs.Held.{GivesNext, HasGiven}
use Rattle.ots_sessions.specs.Sessions.{sides}
use Rattle.ots_sessions.proofs.Going.{step_ends, step_goes, step_refused}
use Rattle.ots_sessions.proofs.session.serve_next.Goals as goal

pub returns-in-Err-clause-ends : goal.returns-in-Err-clause-ends
returns-in-Err-clause-ends g c =
    let from = sides (g.O.Sink.taken c.args.sink.now) c.args.servant.now in
    let to = sides (g.O.Sink.taken c.refuse-end.new.sink) c.args.servant.now in
    step_refused g.S.Servant.finds g.S.Servant.answers c.in-Err.fault c.refuse-end.result c.args.stream.now c.next.new.self from to
    (g.O.Sink.faults c.args.sink.now, g.O.Sink.faults c.refuse-end.new.sink) c.in-Err.ensures c.refuse-end.ensures.told c.refuse-end.ensures.fault refl

pub returns-in-Ok-clause-goes_on : goal.returns-in-Ok-clause-goes_on
returns-in-Ok-clause-goes_on g c =
    let from = sides (g.O.Sink.taken c.args.sink.now) c.args.servant.now in
    let to = sides (g.O.Sink.taken c.serve_message.new.sink) c.serve_message.new.servant in
    let given = subst (λ found. GivesNext HasGiven (Ok found) c.args.stream.now c.next.new.self) c.in-Ok-Some.field-0-is c.in-Ok-Some.ensures in
    step_goes g.S.Servant.finds g.S.Servant.answers c.in-Ok-Some.message c.args.stream.now c.next.new.self from to given c.in-Ok.ensures.answered

pub returns-clause-ends : goal.returns-clause-ends
returns-clause-ends g c =
    let from = sides (g.O.Sink.taken c.args.sink.now) c.args.servant.now in
    let to = sides (g.O.Sink.taken c.serve_message.new.sink) c.serve_message.new.servant in
    let given = subst (λ found. GivesNext HasGiven (Ok found) c.args.stream.now c.next.new.self) c.in-Ok-Some.field-0-is c.in-Ok-Some.ensures in
    step_ends g.S.Servant.finds g.S.Servant.answers c.in-Ok-Some.message c.in-Err-serve_message.end c.args.stream.now c.next.new.self from to
    (g.O.Sink.faults c.args.sink.now, g.O.Sink.faults c.serve_message.new.sink) given c.in-Err-serve_message.ensures.ends
