use Rattle.std.proofs.Common.{ap, ◌∙◌}
use Rattle.cdr_values.specs.Value.{ULongLong}
use Rattle.cdr_values.specs.Writing.{Writing, with_value}
use Rattle.ots_calls.specs.Writing.{retry_octets}
use Rattle.ots_calls.proofs.Contexts.{retry_again}
use Rattle.ots_calls.proofs.writing.retry_octets.Goals as goal

pub returns-clause-retry : goal.returns-clause-retry
unfolding retry_octets
returns-clause-retry c =
    retry_again c.encapsulations_are_read_again.ensures (record { client = c.args.client; number = c.args.number }) c.finish.result (c.ranges.client.fits, (c.ranges.number.fits, tt))
    (c.finish.ensures.octets ∙ ap (λ (w : Writing). w.octets) (c.in_ok-ulonglong-2.ensures.ok ∙ ap (λ (w : Writing). with_value w (ULongLong c.args.number)) (c.in_ok-ulonglong.ensures.ok ∙ ap (λ (w : Writing). with_value w (ULongLong c.args.client)) c.in_ok-writer.ensures.ok)))
