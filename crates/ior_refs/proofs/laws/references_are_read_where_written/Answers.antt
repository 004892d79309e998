use Rattle.ior_refs.proofs.Exact.{read_where_written}
use Rattle.ior_refs.proofs.laws.references_are_read_where_written.Goals as goal

pub returns : goal.returns
returns c = read_where_written c.references_are_read_again.ensures c.values_are_written_canonically.ensures
