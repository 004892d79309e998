use Rattle.node_laws.proofs.Lived.{lives_rise_over_crashes}
use Rattle.node_laws.proofs.laws.lives_rise_over_crashes.Goals as goal

pub returns : goal.returns
returns c = lives_rise_over_crashes c.appends_are_safe.ensures c.octets_stand_for_one_list.ensures c.journals_grow.ensures c.lives_rise.ensures
