use Rattle.ots_context.proofs.Exact.{contexts_stand}
use Rattle.ots_context.proofs.laws.contexts_stand_exactly.Goals as goal

pub returns : goal.returns
returns c = contexts_stand c.references_are_read_exactly.ensures c.reading_is_exact.ensures
