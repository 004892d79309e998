use Rattle.cdr_values.proofs.Sequence.{read_apart}
use Rattle.cdr_values.proofs.laws.what_is_read_begins_no_other.Goals as goal

pub returns : goal.returns
returns g c = read_apart g.row.T.Denot g.row.F.Denot
