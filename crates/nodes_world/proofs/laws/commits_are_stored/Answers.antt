use Rattle.nodes_world.proofs.ClosesStored.{closed_are_stored}
use Rattle.nodes_world.proofs.CommitsStored.{commits_are_stored}
use Rattle.nodes_world.proofs.StoredAnswers.{answered_are_stored}
use Rattle.nodes_world.proofs.ToldStored.{told_are_stored}
use Rattle.nodes_world.proofs.laws.commits_are_stored.Goals as goal

pub returns-clause-obeyed : goal.returns-clause-obeyed
returns-clause-obeyed c = commits_are_stored c.steps_stay_known.ensures

pub returns-clause-answered : goal.returns-clause-answered
returns-clause-answered c = answered_are_stored c.steps_stay_known.ensures

pub returns-clause-told : goal.returns-clause-told
returns-clause-told c =
    told_are_stored c.families_step_rightly.ensures c.families_hear_outcomes_answered.ensures c.families_number_words.ensures c.steps_stay_known.ensures

pub returns-clause-closed : goal.returns-clause-closed
returns-clause-closed c =
    closed_are_stored c.laws_of_completions.ensures c.families_close_last.ensures c.families_step_rightly.ensures c.families_hear_outcomes_answered.ensures
    c.families_number_words.ensures c.steps_stay_known.ensures
