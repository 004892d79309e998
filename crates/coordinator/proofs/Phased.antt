-- What each call is answered in each phase: it computes.
use Rattle.std.proofs.Common.{refl}
use Rattle.coordinator.specs.Family.{waiting_for}
use Rattle.coordinator.specs.Moves.{sends, ends_call, completes_as}
use Rattle.coordinator.specs.Phases.{phase, status_of, column}
use Rattle.coordinator.specs.Closing.{commit_answer, finishes, afterwards, decides, begins, before}
use Rattle.coordinator.specs.Running.{undo_duties, commit_duties, commits_up, tells_own, passes, ends_below, sweeps, is_held, runs, goes_on}
use Rattle.coordinator.specs.Hearing.{is_markable, marks, told_commit, told_before, told_participant, hears_at, wants_done, answers_doubt, decided, closes, settles, decision_record}
use Rattle.coordinator.specs.Names.{otid_of, name_of, hash_of}
use Rattle.coordinator.specs.Table.{gets_terminator, registers_resource, registers_aware, registers_synchronization, creates_subtransaction, marks_only, rolls_back_top, rolls_back_sub, begins_commit, commits, rolls_back_asked, replays}
use Rattle.coordinator.specs.History.{answer_at, kept}
use Rattle.coordinator.specs.Step.{hears, answered, has_timed_out, ticks, rereads, acted, entered, family_step, wanted, is_finished}
use Rattle.txn_tree.specs.Rows.{ancestors, is_ancestor, are_related, depth, is_committed_up}
use Rattle.two_phase.specs.Course.{all_consent, some_commit, first_refuser, outcome, waits_for_superior, some_incomplete, next_asked, next_told, next_forgetting, errand, next_word}
use Rattle.two_phase.specs.Reports.{gathered, all_through, some_owed, owed_numbers}
use Rattle.coordinator.specs.AnswersByPhase.{AnswersByPhase}

pub answers_by_phase : AnswersByPhase
unfolding waiting_for sends ends_call completes_as phase status_of column commit_answer finishes afterwards decides begins before undo_duties commit_duties commits_up tells_own passes ends_below sweeps is_held runs goes_on is_markable marks told_commit told_before told_participant hears_at wants_done answers_doubt decided closes settles decision_record otid_of name_of hash_of gets_terminator registers_resource registers_aware registers_synchronization creates_subtransaction marks_only rolls_back_top rolls_back_sub begins_commit commits rolls_back_asked replays answer_at kept hears answered has_timed_out ticks rereads acted entered family_step wanted is_finished ancestors is_ancestor are_related depth is_committed_up all_consent some_commit first_refuser outcome waits_for_superior some_incomplete next_asked next_told next_forgetting errand next_word gathered all_through some_owed owed_numbers
answers_by_phase = record {
  in_active = refl;
  in_marked = refl;
  in_finishing = refl;
  in_finishing_marked = refl;
  in_preparing = refl;
  of_a_voter = refl;
  in_one_phase = refl;
  in_doubt = refl;
  in_committing = refl;
  in_rolling_back = refl;
  in_committed = refl;
  in_rolled_back = refl;
  in_unknown = refl;
  of_an_active_sub = refl;
  of_a_marked_sub = refl;
  of_an_ending_sub = refl;
  of_a_committed_sub = refl;
  of_a_rolled_back_sub = refl;
  of_an_orphan = refl;
}
