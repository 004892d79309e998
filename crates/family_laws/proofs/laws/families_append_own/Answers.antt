use Rattle.family_laws.proofs.Journal.{families_append_own}
use Rattle.family_laws.proofs.laws.families_append_own.Goals as goal

pub returns : goal.returns
returns c = families_append_own c.laws_below.ensures c.a_tree_outcome_stays.ensures
