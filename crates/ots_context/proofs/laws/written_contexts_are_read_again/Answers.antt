use Rattle.ots_context.proofs.Again.{written_again}
use Rattle.ots_context.proofs.laws.written_contexts_are_read_again.Goals as goal

pub returns : goal.returns
returns c =
    written_again c.references_are_read_exactly.ensures c.reading_is_exact.ensures c.values_are_read_again.ensures c.values_are_written_canonically.ensures
