use Rattle.resource_end.proofs.Tabled.{table_by_state}
use Rattle.resource_end.proofs.laws.words_follow_states.Goals as goal

pub returns : goal.returns
returns c = table_by_state
