use Rattle.two_phase.proofs.OneWay.{one_way, other_way}
use Rattle.two_phase.proofs.laws.a_tree_goes_one_way.Goals as goal

pub returns-clause-commits : goal.returns-clause-commits
returns-clause-commits c = one_way

pub returns-clause-rolls_back : goal.returns-clause-rolls_back
returns-clause-rolls_back c = other_way
