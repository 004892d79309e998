use Rattle.std.proofs.Common.{ap, ◌∙◌}
use Rattle.cdr_values.specs.Tagged.{reference_values}
use Rattle.cdr_values.specs.Values.{with_values}
use Rattle.cdr_values.specs.Writing.{Writing}
use Rattle.ots_calls.proofs.Written.{left_again}
use Rattle.ots_calls.proofs.body.reference_body.Goals as goal

pub returns-clause-left : goal.returns-clause-left
returns-clause-left c =
    let values = reference_values c.args.reference.now in
    left_again c.values_are_read_again.ensures values c.write_reference.new.writer c.finish.result c.write_reference.ensures.reference.fits
    (c.in_ok-write_reference.ensures.ok ∙ ap (λ (w : Writing). with_values w values) c.new-writer.ensures.stands) c.finish.ensures.octets
