use Rattle.ots_sessions.specs.Sessions.{sides}
use Rattle.ots_sessions.proofs.Ends.{ends_later}
use Rattle.ots_sessions.proofs.session.serve_messages.Goals as goal

pub returns-in-Err-clause-ends : goal.returns-in-Err-clause-ends
returns-in-Err-clause-ends g c =
    let start = sides (g.O.Sink.taken c.args.sink.now) c.args.servant.now in
    let midway = sides (g.O.Sink.taken c.loop.sink) c.loop.servant in
    let to = sides (g.O.Sink.taken c.serve_next.new.sink) c.serve_next.new.servant in
    ends_later g.S.Servant.finds g.S.Servant.answers c.in-Err.end c.args.stream.now c.loop.stream start midway to (g.O.Sink.faults c.args.sink.now) (g.O.Sink.faults c.loop.sink)
    (g.O.Sink.faults c.serve_next.new.sink) c.loop.invariant.goes_on c.loop.invariant.counts c.serve_next.ensures.counts c.in-Err.ensures.ends
