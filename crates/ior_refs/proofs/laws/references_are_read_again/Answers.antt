use Rattle.ior_refs.proofs.Exact.{read_again}
use Rattle.ior_refs.proofs.laws.references_are_read_again.Goals as goal

pub returns : goal.returns
returns c = read_again c.references_are_read_exactly.ensures c.values_are_read_again.ensures
