use Rattle.std.proofs.Common.{◌≡◌, Err, None}
use Rattle.std.specs.Prelude.{IfSome}
use Rattle.giop_frames.specs.declared.fault.FrameFault.TheVariants.{Short}
use Rattle.giop_streams.specs.Stream.{part_at}
use Rattle.ots_program.proofs.Showing.{Showing}
use Rattle.ots_program.proofs.show.show_messages.Given as goal

abbrev pub invariant-loop : goal.invariant-loop
invariant-loop g l = record {
  accepts : l.stream.refused ≡ None;
  partial : part_at l.stream.versions l.stream.rest ≡ Err Short;
  showing : IfSome (g.P.Pieces.remaining l.fn.source) (λ octets. Showing octets (g.P.Pieces.remaining l.source) (g.K.Sink.taken l.fn.sink) (g.K.Sink.taken l.sink) l.stream);
  source_faults : g.P.Pieces.faults l.source ≡ g.P.Pieces.faults l.fn.source;
  sink_faults : g.K.Sink.faults l.sink ≡ g.K.Sink.faults l.fn.sink;
}
