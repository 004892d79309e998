use Rattle.nodes_world.proofs.StandingTold.{restarts_tell_again, standing_is_told, told_is_recorded}
use Rattle.nodes_world.proofs.laws.decisions_outlive_crashes.Goals as goal

pub returns-clause-told : goal.returns-clause-told
returns-clause-told c = standing_is_told c.steps_stay_known.ensures

pub returns-clause-again : goal.returns-clause-again
returns-clause-again c = restarts_tell_again c.steps_stay_known.ensures c.journals_grow.ensures

pub returns-clause-recorded : goal.returns-clause-recorded
returns-clause-recorded c = told_is_recorded c.steps_stay_known.ensures
