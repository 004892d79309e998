use Rattle.cdr_values.proofs.Tagged.{tagged_laws}
use Rattle.cdr_values.proofs.laws.references_are_read_exactly.Goals as goal

pub returns : goal.returns
returns g c = tagged_laws g.row.F.Denot
