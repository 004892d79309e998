use Rattle.cdr_values.proofs.Values.{with_values-is}
use Rattle.cdr_values.proofs.laws.values_are_written_canonically.Goals as goal

pub returns : goal.returns
returns c = with_values-is
