use Rattle.family_laws.proofs.Steps.{families_words_rest}
use Rattle.family_laws.proofs.laws.families_words_rest.Goals as goal

pub returns : goal.returns
returns c = families_words_rest c.laws_below.ensures
