use Rattle.ior_refs.proofs.Exact.{short_exact}
use Rattle.ior_refs.proofs.laws.references_are_read_exactly.Goals as goal

pub returns : goal.returns
returns c = short_exact c.references_are_read_exactly.ensures
