use Rattle.ots_calls.proofs.Requests.{requests_exact}
use Rattle.ots_calls.proofs.laws.requests_are_read_exactly.Goals as goal

pub returns : goal.returns
returns c =
    requests_exact c.names_tell_operations.ensures c.contexts_are_read_exactly.ensures c.contexts_stand_exactly.ensures c.references_are_read_exactly.ensures c.reading_is_exact.ensures
