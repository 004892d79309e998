use Rattle.ots_context.proofs.Exact.{contexts_exact}
use Rattle.ots_context.proofs.laws.contexts_are_read_exactly.Goals as goal

pub returns : goal.returns
returns c = contexts_exact c.references_are_read_exactly.ensures c.reading_is_exact.ensures
