use Rattle.std.proofs.Common.{◌≡◌, ◌-◌}
use Rattle.ots_program.specs.Limits.{octets_limit}
use Rattle.ots_program.specs.PlayingInside.{octets_fed}
use Rattle.ots_program.specs.ReplayInside.{IsReady}
use Rattle.ots_program.proofs.Runs.{Runs}
use Rattle.ots_program.proofs.replay.replay_script.Given as goal

abbrev pub invariant-loop-count : goal.invariant-loop-count
invariant-loop-count g l = record {
  ready : IsReady l.player;
  runs : Runs l.player (g.P.Pieces.remaining l.fn.source) (g.P.Pieces.remaining l.source) (g.K.Sink.taken l.fn.sink) (g.K.Sink.taken l.sink);
  source_faults : g.P.Pieces.faults l.source ≡ g.P.Pieces.faults l.fn.source;
  sink_faults : g.K.Sink.faults l.sink ≡ g.K.Sink.faults l.fn.sink;
}

-- Each read that isn't the end brings an octet, and the player takes no more than the limit.
abbrev pub decreases-loop-count : goal.decreases-loop-count
decreases-loop-count g l = octets_limit - octets_fed l.player
