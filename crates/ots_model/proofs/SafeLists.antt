-- Each rule lets pass what it should, and refuses what it must.
use Rattle.ots_model.specs.SafeExamples.{TellsOneWay, CommitsByDecision, WaitsForSuperiors, DecidesForItself, TellsParticipants, WaitsForJoined, KeepsOutcomes, ComesInTime, SafetyExamples}
use Rattle.ots_model.proofs.SafePassed.{told_safe, told_alone_safe, rolled_safe, read_only_safe, prepared_safe, nested_committed_safe, committed_twice_safe, joined_safe, nested_rolled_safe, applied_safe, applied_alone_safe, applied_learnt_safe, undone_safe, undone_alone_safe, undone_rolled_safe}
use Rattle.ots_model.proofs.SafeFamilies.{all_consented_safe, decided_alone_safe, told_below_safe, told_beside_safe}
use Rattle.ots_model.proofs.SafeRefused.{rollback_after_commit, rollback_after_one_phase, commit_after_rollback, one_phase_after_rollback, with_a_vote_open, with_a_vote_for_rollback, with_a_vote_behind, without_a_record, on_another_ground, recorded_behind, of_unregistered, of_active, of_rolled_back, committed_behind, below_an_active, applied_untold, applied_before, applied_on_rollback, rollback_learnt, joined_vote_open, undone_when_told, told_when_undone, both_states}
use Rattle.ots_model.proofs.SafeRefusedFamilies.{by_its_own_record, by_the_next_record, its_own_vote_open, vote_between_open, vote_above_open, by_its_superiors_record, by_its_own_record_untold, registered_late, registered_late_above, committed_late, told_alone_late}

one_way : TellsOneWay
one_way = record {
  commit = told_safe;
  one_phase = told_alone_safe;
  rollback = rolled_safe;
  not_rollback_after_commit = rollback_after_commit;
  not_rollback_after_one_phase = rollback_after_one_phase;
  not_commit_after_rollback = commit_after_rollback;
  not_one_phase_after_rollback = one_phase_after_rollback;
}

by_decision : CommitsByDecision
by_decision = record {
  once_recorded = told_safe;
  read_only_consents = read_only_safe;
  not_with_a_vote_open = with_a_vote_open;
  not_with_a_vote_for_rollback = with_a_vote_for_rollback;
  not_with_a_vote_behind = with_a_vote_behind;
  not_unrecorded = without_a_record;
  not_on_another_ground = on_another_ground;
  not_recorded_behind = recorded_behind;
}

imported : WaitsForSuperiors
imported = record {
  once_all_consented = all_consented_safe;
  not_by_its_own_record = by_its_own_record;
  not_by_the_next_record = by_the_next_record;
  not_with_its_own_vote_open = its_own_vote_open;
  not_with_a_vote_between_open = vote_between_open;
  not_with_a_vote_above_open = vote_above_open;
}

alone : DecidesForItself
alone = record {
  by_its_own_record = decided_alone_safe;
  not_by_its_superiors_record = by_its_superiors_record;
  not_by_its_own_record_untold = by_its_own_record_untold;
}

to_participants : TellsParticipants
to_participants = record {
  of_top = prepared_safe;
  of_committed = nested_committed_safe;
  of_committed_twice = committed_twice_safe;
  rollback_to_any = nested_rolled_safe;
  not_unregistered = of_unregistered;
  not_of_active = of_active;
  not_of_rolled_back = of_rolled_back;
  not_committed_behind = committed_behind;
  not_below_an_active = below_an_active;
}

joined : WaitsForJoined
joined = record { commit = joined_safe; not_with_its_vote_open = joined_vote_open }

kept : KeepsOutcomes
kept = record {
  applied_when_told = applied_safe;
  applied_when_told_alone = applied_alone_safe;
  applied_when_learnt = applied_learnt_safe;
  undone_when_untold = undone_safe;
  undone_when_told_alone = undone_alone_safe;
  undone_when_told_rollback = undone_rolled_safe;
  not_applied_untold = applied_untold;
  not_applied_before = applied_before;
  not_applied_when_rollback_learnt = rollback_learnt;
  not_applied_on_rollback = applied_on_rollback;
  not_undone_when_told = undone_when_told;
  not_told_when_undone = told_when_undone;
  not_both = both_states;
}

in_time : ComesInTime
in_time = record {
  beside_an_active = told_beside_safe;
  below_a_superior = told_below_safe;
  not_registered_late = registered_late;
  not_registered_late_above = registered_late_above;
  not_committed_late = committed_late;
  not_told_alone_late = told_alone_late;
}

pub safety_examples : SafetyExamples
safety_examples = record { one_way = one_way; by_decision = by_decision; imported = imported; alone = alone; to_participants = to_participants; joined = joined; kept = kept; in_time = in_time }
