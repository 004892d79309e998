use Rattle.std.proofs.Common.{◌≤◌}
use Rattle.ots_sessions.specs.Sessions.{sides}
use Rattle.ots_sessions.specs.SessionsInside.{IsSoFar}
use Rattle.ots_sessions.proofs.session.serve_session.Given as goal

abbrev pub invariant-loop : goal.invariant-loop
invariant-loop g l = record {
  so_far : IsSoFar g.S.Servant.finds g.S.Servant.answers l.stream (g.I.Source.remaining l.fn.source) (g.I.Source.remaining l.source)
      (sides (g.O.Sink.taken l.fn.sink) l.fn.servant)
      (sides (g.O.Sink.taken l.sink) l.servant);
  reads : g.I.Source.faults l.fn.source ≤ g.I.Source.faults l.source;
  writes : g.O.Sink.faults l.fn.sink ≤ g.O.Sink.faults l.sink;
  later : g.S.Servant.faults l.fn.servant ≤ g.S.Servant.faults l.servant;
}
