use Rattle.std.proofs.Common.{refl, sym, ap, ◌∙◌, arith}
use Rattle.giop_streams.specs.Held.{Held}
use Rattle.giop_streams.specs.Stream.{part_at}
use Rattle.ots_program.proofs.Showing.{nothing_partial, read_to_end, showing_broke, showing_ended, showing_failed, showing_more, showing_start}
use Rattle.ots_program.proofs.show.show_messages.Goals as goal

pub loop-init : goal.loop-init
loop-init g c = record {
  accepts = ap (λ (h : Held). h.refused) c.new-stream.ensures.nothing;
  partial = ap (λ (h : Held). part_at h.versions h.rest) c.new-stream.ensures.nothing ∙ nothing_partial;
  showing = showing_start (g.P.Pieces.remaining c.args.source.now) (g.K.Sink.taken c.args.sink.now) c.new-stream.result c.new-stream.ensures.holds;
  source_faults = refl;
  sink_faults = refl;
}

pub returns-in_default-clause-shows : goal.returns-in_default-clause-shows
returns-in_default-clause-shows g c = showing_failed _ _ _ _ _ c.loop.invariant.showing

pub returns-then-count-eq0-clause-shows : goal.returns-then-count-eq0-clause-shows
returns-then-count-eq0-clause-shows g c = showing_ended c.end.result _ _ _ _ _ _ _ _ _ c.loop.invariant.showing c.in-Ok.ensures.octets c.if-count-eq0.true (omega arith) c.end.ensures

pub returns-then-count-eq0-clause-end : goal.returns-then-count-eq0-clause-end
returns-then-count-eq0-clause-end g c = λ _. read_to_end _ _ _ _ _ _ _ _ _ c.loop.invariant.showing c.in-Ok.ensures.octets c.if-count-eq0.true (omega arith)

pub returns-in-Err-clause-shows : goal.returns-in-Err-clause-shows
returns-in-Err-clause-shows g c =
    showing_broke c.a_refusal_stays.ensures.goes_on c.in-Err.status _ _ _ _ _ _ _ _ _ _ c.loop.invariant.showing c.in-Ok.ensures.octets c.in-Err.ensures.broken

pub loop-preserved : goal.loop-preserved
loop-preserved g c =
    let took = c.in_default-show_piece.ensures.took in
    record {
      accepts = took.accepts;
      partial = took.partial;
      showing = showing_more _ _ _ _ _ _ _ _ _ _ _ c.loop.invariant.showing c.in-Ok.ensures.octets took;
      source_faults = c.in-Ok.ensures.calm ∙ c.loop.invariant.source_faults;
      sink_faults = c.show_piece.ensures.calm (λ e. cc (sym c.in_default-show_piece.is ∙ e)) ∙ c.loop.invariant.sink_faults;
    }
