use Rattle.ots_calls.proofs.Answers.{answers_exact}
use Rattle.ots_calls.proofs.laws.answers_are_read_exactly.Goals as goal

pub returns : goal.returns
returns c = answers_exact c.references_are_read_exactly.ensures c.contexts_stand_exactly.ensures c.reading_is_exact.ensures
