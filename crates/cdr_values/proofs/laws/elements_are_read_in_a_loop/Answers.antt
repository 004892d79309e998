use Rattle.cdr_values.proofs.Sequence.{loop_laws}
use Rattle.cdr_values.proofs.laws.elements_are_read_in_a_loop.Goals as goal

pub returns : goal.returns
returns g c = loop_laws g.row.T.Denot g.row.F.Denot
