use Rattle.std.proofs.Common.{rules, ◌<◌, sym, arith, length, take}
use Rattle.giop_streams.specs.Held.{HasCome}
use Rattle.ots_outside.specs.Source.{GivesOf}
use Rattle.ots_sessions.specs.Sessions.{sides}
use Rattle.ots_sessions.proofs.Ends.{ends_by, ends_cut, ends_hungry, ends_read, ends_whole, on_ok, reads_on}
use Rattle.ots_sessions.proofs.session.serve_session.Goals as goal

pub returns-in-Ok-eq0-clause-session : goal.returns-in-Ok-eq0-clause-session
returns-in-Ok-eq0-clause-session g c =
    let start = sides (g.O.Sink.taken c.args.sink.now) c.args.servant.now in
    let now = sides (g.O.Sink.taken c.loop.sink) c.loop.servant in
    let gives : GivesOf (g.I.Source.remaining c.loop.source) (length c.loop.piece) 0 c.read.new.into (g.I.Source.remaining c.read.new.self) =
    search (rules, c.in-Ok-eq0.ensures.octets, c.in-Ok-eq0.field-0-is) in
    let some : 0 < length c.loop.piece = search rules in
    ends_cut g.S.Servant.finds g.S.Servant.answers c.loop.stream (g.I.Source.remaining c.args.source.now) (g.I.Source.remaining c.loop.source) start now c.loop.invariant.so_far
    c.read.new.into (length c.loop.piece) (g.I.Source.remaining c.read.new.self) (g.I.Source.faults c.args.source.now, g.I.Source.faults c.read.new.self)
    (g.O.Sink.faults c.args.sink.now, g.O.Sink.faults c.loop.sink) c.unfinished.result gives some c.unfinished.ensures c.if-unfinished.true

pub returns-in-Ok-eq0-2-clause-session : goal.returns-in-Ok-eq0-2-clause-session
returns-in-Ok-eq0-2-clause-session g c =
    let start = sides (g.O.Sink.taken c.args.sink.now) c.args.servant.now in
    let now = sides (g.O.Sink.taken c.loop.sink) c.loop.servant in
    let gives : GivesOf (g.I.Source.remaining c.loop.source) (length c.loop.piece) 0 c.read.new.into (g.I.Source.remaining c.read.new.self) =
    search (rules, c.in-Ok-eq0.ensures.octets, c.in-Ok-eq0.field-0-is) in
    let some : 0 < length c.loop.piece = search rules in
    ends_whole g.S.Servant.finds g.S.Servant.answers c.loop.stream (g.I.Source.remaining c.args.source.now) (g.I.Source.remaining c.loop.source) start now c.loop.invariant.so_far
    c.read.new.into (length c.loop.piece) (g.I.Source.remaining c.read.new.self) (g.I.Source.faults c.args.source.now, g.I.Source.faults c.read.new.self)
    (g.O.Sink.faults c.args.sink.now, g.O.Sink.faults c.loop.sink) c.unfinished.result gives some c.unfinished.ensures c.if-unfinished.false

pub returns-then-is_err-clause-session : goal.returns-then-is_err-clause-session
returns-then-is_err-clause-session g c =
    let start = sides (g.O.Sink.taken c.args.sink.now) c.args.servant.now in
    let now = sides (g.O.Sink.taken c.loop.sink) c.loop.servant in
    ends_hungry g.S.Servant.finds g.S.Servant.answers c.loop.stream (g.I.Source.remaining c.args.source.now) (g.I.Source.remaining c.loop.source) start now c.loop.invariant.so_far
    c.read.new.into (length c.loop.piece) c.in-Ok.count (g.I.Source.remaining c.read.new.self) (g.I.Source.faults c.args.source.now, g.I.Source.faults c.read.new.self)
    (g.O.Sink.faults c.args.sink.now, g.O.Sink.faults c.loop.sink) c.in-Ok.ensures.octets

pub loop-preserved : goal.loop-preserved
loop-preserved g c =
    let start = sides (g.O.Sink.taken c.args.sink.now) c.args.servant.now in
    let now = sides (g.O.Sink.taken c.loop.sink) c.loop.servant in
    let to = sides (g.O.Sink.taken c.serve_messages.new.sink) c.serve_messages.new.servant in
    let come : HasCome (take c.in-Ok.count c.read.new.into) c.loop.stream c.feed.new.self =
    on_ok c.feed.result (sym c.if-is_err.ensures.value) c.feed.ensures.ok in
    record {
      so_far = reads_on g.S.Servant.finds g.S.Servant.answers c.loop.stream (g.I.Source.remaining c.args.source.now) (g.I.Source.remaining c.loop.source) start now c.loop.invariant.so_far
          c.feed.new.self c.serve_messages.new.stream c.read.new.into (length c.loop.piece) c.in-Ok.count (g.I.Source.remaining c.read.new.self) to
          c.in-Ok.ensures.octets come c.in-Ok-serve_messages.ensures.goes_on c.in-Ok-serve_messages.ensures.partial;
      reads = omega (arith, c.loop.invariant.reads, c.read.ensures.later);
      writes = omega (arith, c.loop.invariant.writes, c.serve_messages.ensures.counts);
      later = omega (arith, c.loop.invariant.later, c.serve_messages.ensures.later);
    }

pub returns-in-Err-serve_messages-clause-session : goal.returns-in-Err-serve_messages-clause-session
returns-in-Err-serve_messages-clause-session g c =
    let start = sides (g.O.Sink.taken c.args.sink.now) c.args.servant.now in
    let now = sides (g.O.Sink.taken c.loop.sink) c.loop.servant in
    let to = sides (g.O.Sink.taken c.serve_messages.new.sink) c.serve_messages.new.servant in
    let come : HasCome (take c.in-Ok.count c.read.new.into) c.loop.stream c.feed.new.self =
    on_ok c.feed.result (sym c.if-is_err.ensures.value) c.feed.ensures.ok in
    ends_by g.S.Servant.finds g.S.Servant.answers c.loop.stream (g.I.Source.remaining c.args.source.now) (g.I.Source.remaining c.loop.source) start now c.loop.invariant.so_far
    c.feed.new.self c.serve_messages.new.stream c.read.new.into (length c.loop.piece) c.in-Ok.count (g.I.Source.remaining c.read.new.self) to
    c.in-Ok.ensures.octets come c.in-Err-serve_messages.end (g.I.Source.faults c.args.source.now, g.I.Source.faults c.read.new.self)
    (g.O.Sink.faults c.args.sink.now) (g.O.Sink.faults c.loop.sink) (g.O.Sink.faults c.serve_messages.new.sink) c.loop.invariant.writes c.serve_messages.ensures.counts
    c.in-Err-serve_messages.ensures.ends

pub returns-in-Err-clause-session : goal.returns-in-Err-clause-session
returns-in-Err-clause-session g c =
    let start = sides (g.O.Sink.taken c.args.sink.now) c.args.servant.now in
    let now = sides (g.O.Sink.taken c.loop.sink) c.loop.servant in
    ends_read g.S.Servant.finds g.S.Servant.answers c.loop.stream (g.I.Source.remaining c.args.source.now) (g.I.Source.remaining c.loop.source) start now c.loop.invariant.so_far
    (g.I.Source.remaining c.read.new.self) (g.I.Source.faults c.args.source.now) (g.I.Source.faults c.loop.source) (g.I.Source.faults c.read.new.self)
    (g.O.Sink.faults c.args.sink.now, g.O.Sink.faults c.loop.sink) c.in-Err.ensures.untouched c.loop.invariant.reads c.read.ensures.later c.in-Err.ensures.cause
