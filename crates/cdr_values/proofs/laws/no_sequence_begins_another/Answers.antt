use Rattle.cdr_values.proofs.Sequence.{sequences_apart}
use Rattle.cdr_values.proofs.laws.no_sequence_begins_another.Goals as goal

pub returns : goal.returns
returns g c = sequences_apart g.row.T.Denot
