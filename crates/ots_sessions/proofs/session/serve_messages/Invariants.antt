use Rattle.std.proofs.Common.{◌≤◌}
use Rattle.ots_sessions.specs.Sessions.{sides}
use Rattle.ots_sessions.specs.SessionsInside.{GoesOn}
use Rattle.ots_sessions.proofs.session.serve_messages.Given as goal

abbrev pub invariant-loop : goal.invariant-loop
invariant-loop g l = record {
  goes_on : GoesOn g.S.Servant.finds g.S.Servant.answers l.fn.stream l.stream
      (sides (g.O.Sink.taken l.fn.sink) l.fn.servant)
      (sides (g.O.Sink.taken l.sink) l.servant);
  later : g.S.Servant.faults l.fn.servant ≤ g.S.Servant.faults l.servant;
  counts : g.O.Sink.faults l.fn.sink ≤ g.O.Sink.faults l.sink;
}
