use Rattle.nodes_world.proofs.DonesComplete.{DoneLaws, dones_are_complete, dones_are_stored, held_wait_or_answered}
use Rattle.nodes_world.proofs.HearingsMay.{known_may_ask}
use Rattle.nodes_world.proofs.laws.dones_are_complete.Goals as goal

the_laws : goal.After-steps_stay_known → DoneLaws
the_laws c =
    record {
      grow = c.journals_grow.ensures;
      safe = c.loads_are_safe.ensures;
      read = c.records_are_read.ensures;
      keep = c.asked_journals_stay_in_order.ensures.keep;
      stop = c.asked_journals_stay_in_order.ensures.stop;
      complete = c.completes_once.ensures;
      nodes = c.nodes_keep_decisions.ensures;
      rightly = c.families_step_rightly.ensures;
      answered = c.families_hear_outcomes_answered.ensures;
      numbers = c.families_number_words.ensures;
      close = c.families_close_last.ensures;
      completions = c.laws_of_completions.ensures;
      may = known_may_ask c.laws_of_completions.ensures
          (record {
            grow = c.journals_grow.ensures;
            read = c.records_are_read.ensures;
            keep = c.asked_journals_stay_in_order.ensures.keep;
            stop = c.asked_journals_stay_in_order.ensures.stop;
            complete = c.completes_once.ensures;
          }) c.nodes_keep_decisions.ensures c.held_records_stood.ensures;
      known = c.steps_stay_known.ensures;
    }

pub returns-clause-complete : goal.returns-clause-complete
returns-clause-complete c = dones_are_complete (the_laws c)

pub returns-clause-stored : goal.returns-clause-stored
returns-clause-stored c = dones_are_stored (the_laws c)

pub returns-clause-held : goal.returns-clause-held
returns-clause-held c = held_wait_or_answered (the_laws c)
