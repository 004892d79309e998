use Rattle.std.proofs.Common.{◌≤◌}
use Rattle.ots_outside.specs.Spawning.{refused, started}
use Rattle.ots_sessions.specs.Sessions.{HasJobs}
use Rattle.ots_sessions.proofs.sessions.serve_door.Given as goal

abbrev pub invariant-loop : goal.invariant-loop
invariant-loop g l = record {
  faults : g.O.Door.faults l.fn.door ≤ g.O.Door.faults l.door;
  jobs : HasJobs (g.O.Door.given l.fn.door) (g.O.Door.given l.door) (started l.fn.spawner) (started l.spawner) (refused l.fn.spawner) (refused l.spawner);
}
