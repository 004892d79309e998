-- What the short runs of a node show: they compute.
use Rattle.std.proofs.Common.{refl}
use Rattle.coordinator.specs.Family.{waiting_for}
use Rattle.coordinator.specs.Moves.{sends, ends_call, completes_as}
use Rattle.coordinator.specs.Phases.{phase, status_of, column}
use Rattle.coordinator.specs.Closing.{commit_answer, finishes, afterwards, decides, begins, before}
use Rattle.coordinator.specs.Running.{undo_duties, commit_duties, commits_up, tells_own, passes, ends_below, sweeps, is_held, runs, goes_on}
use Rattle.coordinator.specs.Hearing.{is_markable, marks, told_commit, told_before, told_participant, hears_at, wants_done, answers_doubt, decided, closes, settles, decision_record}
use Rattle.coordinator.specs.Names.{otid_of, name_of, hash_of}
use Rattle.coordinator.specs.Table.{gets_terminator, registers_resource, registers_aware, registers_synchronization, creates_subtransaction, marks_only, rolls_back_top, rolls_back_sub, begins_commit, commits, rolls_back_asked, replays}
use Rattle.coordinator.specs.History.{answer_at, kept}
use Rattle.coordinator.specs.Step.{hears, answered, has_timed_out, ticks, rereads, acted, entered, family_step, wanted, is_finished}
use Rattle.txn_tree.specs.Rows.{ancestors, is_ancestor, are_related, depth, is_committed_up}
use Rattle.two_phase.specs.Course.{all_consent, some_commit, first_refuser, outcome, waits_for_superior, some_incomplete, next_asked, next_told, next_forgetting, errand, next_word}
use Rattle.two_phase.specs.Reports.{gathered, all_through, some_owed, owed_numbers}
use Rattle.coordinator.specs.Node.{family_of}
use Rattle.coordinator.specs.NodeSlots.{free_slot, makes, creates}
use Rattle.coordinator.specs.NodeCalls.{hears_record, answers_recovered, applies}
use Rattle.coordinator.specs.NodeTick as tick
use Rattle.coordinator.specs.NodePlays.{NodesPlay}

pub nodes_play : NodesPlay
unfolding waiting_for sends ends_call completes_as phase status_of column commit_answer finishes afterwards decides begins before undo_duties commit_duties commits_up tells_own passes ends_below sweeps is_held runs goes_on is_markable marks told_commit told_before told_participant hears_at wants_done answers_doubt decided closes settles decision_record otid_of name_of hash_of gets_terminator registers_resource registers_aware registers_synchronization creates_subtransaction marks_only rolls_back_top rolls_back_sub begins_commit commits rolls_back_asked replays answer_at kept hears answered has_timed_out ticks rereads acted entered family_step wanted is_finished ancestors is_ancestor are_related depth is_committed_up all_consent some_commit first_refuser outcome waits_for_superior some_incomplete next_asked next_told next_forgetting errand next_word gathered all_through some_owed owed_numbers family_of free_slot makes creates hears_record answers_recovered applies tick.ticks
nodes_play = record {
  first_is_made = refl;
  second_is_made = refl;
  slot_is_given_again = refl;
  slot_is_kept = refl;
  old_key_is_gone = refl;
  works = refl;
  record_stands = refl;
  next_life = refl;
  record_is_found = refl;
  tells_again = refl;
  hears_both = refl;
  tells_the_rest = refl;
  nothing_is_left = refl;
  nothing_is_told = refl;
  commit_comes_again = refl;
  participant_asks = refl;
  another_asks = refl;
  life_without_record = refl;
  nothing_was_left = refl;
  nobody_knows = refl;
}
