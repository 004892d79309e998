-- What the short runs of an end show: they compute.
use Rattle.std.proofs.Common.{refl}
use Rattle.resource_end.specs.End.{changes}
use Rattle.resource_end.specs.Recall.{recalls, reread}
use Rattle.resource_end.specs.Calls.{changing, fresh, bind, put, get, choose_heuristic, told, asks, learn}
use Rattle.resource_end.specs.Plays.{ACrashOfPrepared, CrashesKeepRecords, AChoiceStays, OneCellHasOneHolder, AFailureIsReadAgain, EndsPlay}

a_crash_of_prepared : ACrashOfPrepared
unfolding changes recalls reread changing fresh bind put get choose_heuristic told asks learn
a_crash_of_prepared = record {
  stands = refl;
  sees_its_put = refl;
  stored_not = refl;
  asks_its_coordinator = refl;
  learns_commit = refl;
  stores_it = refl;
  shows_it = refl;
  asks_no_more = refl;
  learns_rollback = refl;
  stores_nothing = refl;
  is_aware_too = refl;
  new_key = refl;
}

crashes_keep_records : CrashesKeepRecords
unfolding changes recalls reread changing fresh bind put get choose_heuristic told asks learn
crashes_keep_records = record {
  working_is_lost = refl;
  applied = refl;
  applied_cell = refl;
  undone = refl;
  one_phase = refl;
  one_phase_cell = refl;
  chose = refl;
  chose_cell = refl;
  forgotten = refl;
}

a_choice_stays : AChoiceStays
unfolding changes recalls reread changing fresh bind put get choose_heuristic told asks learn
a_choice_stays = record {
  other_value = refl;
  commit_comes_later = refl;
  learns_nothing = refl;
  chooses_once = refl;
  answers_again = refl;
}

one_cell_has_one_holder : OneCellHasOneHolder
unfolding changes recalls reread changing fresh bind put get choose_heuristic told asks learn
one_cell_has_one_holder = record {
  held = refl;
  held_prepared = refl;
  other_cell = refl;
  freed_by_rollback = refl;
  sees_its_own = refl;
  other_sees_none = refl;
}

a_failure_is_read_again : AFailureIsReadAgain
unfolding changes recalls reread changing fresh bind put get choose_heuristic told asks learn
a_failure_is_read_again = record {
  refused = refl;
  as_before = refl;
  stood = refl;
  is_prepared = refl;
  stood_not = refl;
  votes_then = refl;
  unread = refl;
  unread_changes_nothing = refl;
  shows_nothing = refl;
  full_is_refused = refl;
  full_as_before = refl;
}

pub ends_play : EndsPlay
ends_play = record {
  crash = a_crash_of_prepared;
  records = crashes_keep_records;
  choice = a_choice_stays;
  holders = one_cell_has_one_holder;
  failure = a_failure_is_read_again;
}
