use Rattle.cdr_values.proofs.Values.{values_again}
use Rattle.cdr_values.proofs.laws.values_are_read_again.Goals as goal

pub returns : goal.returns
returns c = values_again c.canonical_octets_spell.ensures
