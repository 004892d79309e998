use Rattle.family_laws.proofs.StepsTell.{families_number_words}
use Rattle.family_laws.proofs.laws.families_number_words.Goals as goal

pub returns : goal.returns
returns c = families_number_words
