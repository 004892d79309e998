use Rattle.nodes_world.proofs.StepsKnown.{steps_stay_known}
use Rattle.nodes_world.proofs.laws.steps_stay_known.Goals as goal

pub returns : goal.returns
returns c =
    steps_stay_known c.allowed_lines_are_safe.ensures
    (record {
      grow = c.journals_grow.ensures;
      read = c.records_are_read.ensures;
      keep = c.asked_journals_stay_in_order.ensures.keep;
      stop = c.asked_journals_stay_in_order.ensures.stop;
      complete = c.completes_once.ensures;
    }) c.loads_are_safe.ensures c.nodes_keep_decisions.ensures c.held_records_stood.ensures c.same_octets_same_key.ensures
    (record {
      sound = c.families_stay_sound.ensures;
      turns = c.families_end_in_turn.ensures;
      rest = c.families_words_rest.ensures;
      numbers = c.families_number_words.ensures;
      outcomes = c.families_tell_outcomes.ensures;
      votes = c.families_tell_votes.ensures;
      stay = c.family_outcomes_stay.ensures;
      grow = c.histories_grow_by_entries.ensures;
      completions = c.laws_of_completions.ensures;
    })
