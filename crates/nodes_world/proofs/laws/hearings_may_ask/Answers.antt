use Rattle.nodes_world.proofs.HearingsMay.{hearings_may_ask}
use Rattle.nodes_world.proofs.laws.hearings_may_ask.Goals as goal

pub returns : goal.returns
returns c =
    hearings_may_ask c.laws_of_completions.ensures
    (record {
      grow = c.journals_grow.ensures;
      read = c.records_are_read.ensures;
      keep = c.asked_journals_stay_in_order.ensures.keep;
      stop = c.asked_journals_stay_in_order.ensures.stop;
      complete = c.completes_once.ensures;
    }) c.nodes_keep_decisions.ensures c.held_records_stood.ensures c.steps_stay_known.ensures
