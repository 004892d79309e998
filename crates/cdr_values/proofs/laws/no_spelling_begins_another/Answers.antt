use Rattle.cdr_values.proofs.Spelling.{one_spelling}
use Rattle.cdr_values.proofs.laws.no_spelling_begins_another.Goals as goal

pub returns : goal.returns
returns c = one_spelling
