use Rattle.cdr_values.proofs.Sequence.{sequences_exact}
use Rattle.cdr_values.proofs.laws.sequences_are_exact.Goals as goal

pub returns : goal.returns
returns g c = sequences_exact g.row.T.Denot g.row.F.Denot
