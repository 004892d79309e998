use Rattle.ots_context.proofs.Again.{read_where_written}
use Rattle.ots_context.proofs.laws.contexts_are_read_where_written.Goals as goal

pub returns : goal.returns
returns c =
    read_where_written c.references_are_read_exactly.ensures c.reading_is_exact.ensures c.values_are_read_again.ensures c.values_are_written_canonically.ensures
