-- What the scripts tell: it computes.
use Rattle.std.proofs.Common.{◌≡◌, Some, refl}
use Rattle.nodes_steps.specs.Steps.{LinesKeepAgreement}
use Rattle.nodes_plays.specs.Plays.{Plays, PlaysTo}
use Rattle.nodes_plays.specs.Scripts.{commit_script, crash_script, nested_script, rollback_script, short_script}
use Rattle.nodes_plays.specs.Told.{commit_lines, crash_lines, nested_lines, rollback_lines, short_journals, short_lines}
use Rattle.nodes_plays.proofs.Walks.{all_told_by, plays, plays_to, told_by, walk}
use Rattle.coordinator.specs.Closing as coordi_closing
use Rattle.coordinator.specs.Family as coordi_family
use Rattle.coordinator.specs.Hearing as coordi_hearing
use Rattle.coordinator.specs.History as coordi_history
use Rattle.coordinator.specs.Moves as coordi_moves
use Rattle.coordinator.specs.Names as coordi_names
use Rattle.coordinator.specs.Node as coordi_node
use Rattle.coordinator.specs.NodeCalls as coordi_nodecalls
use Rattle.coordinator.specs.NodeSlots as coordi_nodeslots
use Rattle.coordinator.specs.NodeTick as coordi_nodetick
use Rattle.coordinator.specs.Phases as coordi_phases
use Rattle.coordinator.specs.Running as coordi_running
use Rattle.coordinator.specs.Step as coordi_step
use Rattle.coordinator.specs.Table as coordi_table
use Rattle.decision_journal.specs.Reading as decisi_reading
use Rattle.ior_refs.specs.Making as iorref_making
use Rattle.ior_refs.specs.Reference as iorref_reference
use Rattle.txn_tree.specs.Rows as txntre_rows
use Rattle.two_phase.specs.Course as twopha_course
use Rattle.two_phase.specs.Reports as twopha_reports
use Rattle.nodes_world.specs.Clients as nodesw_clients
use Rattle.nodes_world.specs.Deliveries as nodesw_deliveries
use Rattle.nodes_world.specs.Disks as nodesw_disks
use Rattle.nodes_world.specs.Ends as nodesw_ends
use Rattle.nodes_world.specs.Happenings as nodesw_happenings
use Rattle.nodes_world.specs.Journals as nodesw_journals
use Rattle.nodes_world.specs.Lives as nodesw_lives
use Rattle.nodes_world.specs.Nodes as nodesw_nodes
use Rattle.nodes_world.specs.Objects as nodesw_objects
use Rattle.nodes_world.specs.Resolve as nodesw_resolve
use Rattle.nodes_world.specs.Step as nodesw_step
use Rattle.nodes_world.specs.World as nodesw_world

record Computed : Type 0 where
  commit : told_by commit_script ≡ Some commit_lines
  rollback : told_by rollback_script ≡ Some rollback_lines
  crash : told_by crash_script ≡ Some crash_lines
  nested : told_by nested_script ≡ Some nested_lines
  short : all_told_by short_script ≡ Some (short_lines, short_journals)

computed : Computed
unfolding coordi_closing.commit_answer coordi_closing.finishes coordi_closing.afterwards coordi_closing.decides coordi_closing.begins coordi_closing.before coordi_family.waiting_for coordi_hearing.is_markable coordi_hearing.marks coordi_hearing.told_commit coordi_hearing.told_before coordi_hearing.told_participant coordi_hearing.hears_at coordi_hearing.wants_done coordi_hearing.answers_doubt coordi_hearing.decided coordi_hearing.closes coordi_hearing.settles coordi_hearing.decision_record coordi_history.answer_at coordi_history.kept coordi_moves.sends coordi_moves.ends_call coordi_moves.completes_as coordi_names.otid_of coordi_names.name_of coordi_names.hash_of coordi_node.family_of coordi_nodecalls.hears_record coordi_nodecalls.answers_recovered coordi_nodecalls.applies coordi_nodecalls.call_wants coordi_nodeslots.free_slot coordi_nodeslots.makes coordi_nodeslots.creates coordi_nodetick.ticks coordi_phases.phase coordi_phases.status_of coordi_phases.column coordi_running.undo_duties coordi_running.commit_duties coordi_running.commits_up coordi_running.tells_own coordi_running.passes coordi_running.ends_below coordi_running.sweeps coordi_running.is_held coordi_running.runs coordi_running.goes_on coordi_step.hears coordi_step.answered coordi_step.has_timed_out coordi_step.ticks coordi_step.rereads coordi_step.acted coordi_step.entered coordi_step.family_step coordi_step.wanted coordi_step.is_finished coordi_table.gets_terminator coordi_table.registers_resource coordi_table.registers_aware coordi_table.registers_synchronization coordi_table.creates_subtransaction coordi_table.marks_only coordi_table.rolls_back_top coordi_table.rolls_back_sub coordi_table.begins_commit coordi_table.commits coordi_table.rolls_back_asked coordi_table.replays decisi_reading.reference_at decisi_reading.registration_at decisi_reading.list_at decisi_reading.registrations_at decisi_reading.put_at decisi_reading.puts_at decisi_reading.flag_at decisi_reading.key_at decisi_reading.end_at decisi_reading.life_at decisi_reading.decision_at decisi_reading.done_at decisi_reading.prepared_at decisi_reading.cells_prepared_at decisi_reading.cells_outcome_at decisi_reading.one_phase_at decisi_reading.fields_at decisi_reading.record_in decisi_reading.body_at iorref_making.profile_to iorref_reference.canonical_octets txntre_rows.ancestors txntre_rows.is_ancestor txntre_rows.are_related txntre_rows.depth txntre_rows.is_committed_up twopha_course.all_consent twopha_course.some_commit twopha_course.first_refuser twopha_course.outcome twopha_course.waits_for_superior twopha_course.some_incomplete twopha_course.next_asked twopha_course.next_told twopha_course.next_forgetting twopha_course.errand twopha_course.next_word twopha_course.others_have_answered twopha_reports.gathered twopha_reports.all_through twopha_reports.some_owed twopha_reports.owed_numbers nodesw_clients.acts_at nodesw_clients.calls nodesw_clients.begins nodesw_clients.creates_sub nodesw_clients.registers nodesw_deliveries.heard_in nodesw_deliveries.hears_reply nodesw_deliveries.receiver_of nodesw_deliveries.reaches nodesw_deliveries.delivers nodesw_deliveries.lowest nodesw_deliveries.flows nodesw_disks.filled nodesw_disks.left_by nodesw_disks.strikes nodesw_ends.with_resource_at nodesw_ends.puts nodesw_ends.refuses_to nodesw_ends.obeys nodesw_happenings.requests nodesw_happenings.replies nodesw_happenings.effect_lines nodesw_journals.records_from nodesw_journals.records_in nodesw_journals.asks nodesw_lives.restarts nodesw_lives.makes_node nodesw_lives.makes_end nodesw_lives.crashes_now nodesw_lives.stops nodesw_lives.ticks nodesw_lives.journal_lines_from nodesw_nodes.crashes nodesw_nodes.steps nodesw_nodes.ticks_node nodesw_objects.reference nodesw_resolve.begins_named nodesw_resolve.creates_named nodesw_resolve.registers_named nodesw_resolve.puts_named nodesw_resolve.refuses_named nodesw_resolve.commits_named nodesw_resolve.relates_named nodesw_resolve.resolve nodesw_step.carried_out nodesw_step.step nodesw_world.node_at nodesw_world.end_at nodesw_world.life_at nodesw_world.resource_at nodesw_world.thing_in nodesw_world.transaction_name nodesw_world.referred walk
computed = record {
  commit = refl;
  rollback = refl;
  crash = refl;
  nested = refl;
  short = refl;
}

pub commit_plays : LinesKeepAgreement → Plays commit_script commit_lines
commit_plays law = plays law commit_script commit_lines (refl, (refl, (refl, (refl, (refl, (tt, (tt, (tt, (tt, tt))))))))) computed.commit

pub rollback_plays : LinesKeepAgreement → Plays rollback_script rollback_lines
rollback_plays law = plays law rollback_script rollback_lines (refl, (refl, (refl, (refl, (refl, (tt, (tt, (tt, (tt, (tt, tt)))))))))) computed.rollback

pub crash_plays : LinesKeepAgreement → Plays crash_script crash_lines
crash_plays law = plays law crash_script crash_lines (refl, (refl, (refl, (refl, (refl, (tt, (tt, (tt, (tt, (tt, (tt, (tt, (tt, tt))))))))))))) computed.crash

pub nested_plays : LinesKeepAgreement → Plays nested_script nested_lines
nested_plays law = plays law nested_script nested_lines (refl, (refl, (refl, (refl, (refl, (refl, (refl, (refl, (tt, (tt, (tt, (tt, (tt, (tt, (tt, (tt, (tt, tt))))))))))))))))) computed.nested

pub short_plays : LinesKeepAgreement → PlaysTo short_script short_lines short_journals
short_plays law = plays_to law short_script short_lines short_journals (refl, (refl, (tt, (tt, (tt, (tt, tt)))))) computed.short
