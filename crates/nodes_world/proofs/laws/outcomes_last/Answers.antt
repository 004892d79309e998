use Rattle.nodes_world.proofs.HearingsAsk.{hearings_go_on}
use Rattle.nodes_world.proofs.HearingsMay.{known_may_ask}
use Rattle.nodes_world.proofs.OutcomesLast.{reached_outcomes_last}
use Rattle.nodes_world.proofs.laws.outcomes_last.Goals as goal

pub returns : goal.returns
returns c =
    reached_outcomes_last c.journals_grow.ensures c.loads_are_safe.ensures c.records_are_read.ensures
    (hearings_go_on c.asked_journals_stay_in_order.ensures.keep c.asked_journals_stay_in_order.ensures.stop c.records_are_read.ensures
    (known_may_ask c.laws_of_completions.ensures
    (record {
      grow = c.journals_grow.ensures;
      read = c.records_are_read.ensures;
      keep = c.asked_journals_stay_in_order.ensures.keep;
      stop = c.asked_journals_stay_in_order.ensures.stop;
      complete = c.completes_once.ensures;
    }) c.nodes_keep_decisions.ensures c.held_records_stood.ensures))
    c.steps_stay_known.ensures
