use Rattle.std.proofs.Common.{refl, sym, ◌∙◌, arith}
use Rattle.ots_program.proofs.Runs.{Replays-broken, Replays-ended, Replays-read, Runs-more, Runs-start}
use Rattle.ots_program.proofs.replay.replay_script.Goals as goal

pub loop-count-init : goal.loop-count-init
loop-count-init g c = record {
  ready = record { plays = c.new-player.ensures.plays; written = c.new-player.ensures.output };
  runs = Runs-start c.new-player.result (g.P.Pieces.remaining c.args.source.now) (g.K.Sink.taken c.args.sink.now) c.new-player.ensures.left;
  source_faults = refl;
  sink_faults = refl;
}

pub returns-in_default-clause-replays : goal.returns-in_default-clause-replays
returns-in_default-clause-replays g c = Replays-read c.worlds_agree.ensures c.loop-count.player _ _ _ _ c.loop-count.invariant.runs

pub returns-then-count-eq0-clause-replays : goal.returns-then-count-eq0-clause-replays
returns-then-count-eq0-clause-replays g c =
    Replays-ended c.worlds_agree.ensures c.loop-count.player c.finish.result _ _ _ _ _ _ _ _ _ c.loop-count.invariant.runs c.in-Ok.ensures.octets c.if-count-eq0.true (omega arith) c.finish.ensures.halts

pub returns-in-Err-clause-replays : goal.returns-in-Err-clause-replays
returns-in-Err-clause-replays g c =
    Replays-broken c.worlds_agree.ensures c.loop-count.player c.in-Err.status _ _ _ _ _ _ _ _ _ c.loop-count.invariant.runs c.in-Ok.ensures.octets c.in-Err.ensures.breaks_off

pub loop-count-preserved : goal.loop-count-preserved
loop-count-preserved g c = record {
  ready = c.in_default-play.ensures.plays.ready;
  runs = Runs-more c.loop-count.player c.play.new.player _ _ _ _ _ _ _ _ _ c.loop-count.invariant.runs c.in-Ok.ensures.octets c.in_default-play.ensures.plays;
  source_faults = c.in-Ok.ensures.calm ∙ c.loop-count.invariant.source_faults;
  sink_faults = c.play.ensures.calm (λ e. cc (sym c.in_default-play.is ∙ e)) ∙ c.loop-count.invariant.sink_faults;
}
