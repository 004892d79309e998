use Rattle.cdr_values.proofs.Values.{encapsulations_again}
use Rattle.cdr_values.proofs.laws.encapsulations_are_read_again.Goals as goal

pub returns : goal.returns
returns c = encapsulations_again c.canonical_octets_spell.ensures
