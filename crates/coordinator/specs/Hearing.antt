-- What the answer to a word does, and the journal's answer to what is asked of it then (Transaction Service, the operations of
-- interfaces Resource, Synchronization and SubtransactionAwareResource; what a failed commit_subtransaction does, and what
-- the journal is asked, are our profile).
use Rattle.std.specs.Prelude.{ℕ, ◌&&◌, ◌||◌, Bool, true, false, not, List, [], ◌∷◌, map, filter, Option, Some, None, is_none, is_some, if◌then◌else◌}
use Rattle.std.specs.List.{slice_get}
use Rattle.std.specs.Option.{option_and_then}
use Rattle.ots_model.specs.Heard.{of_participant}
use Rattle.ots_model.specs.declared.completion.CallNumber.{CallNumber}
use Rattle.ots_model.specs.declared.completion.Doubted.{Doubted}
use Rattle.ots_model.specs.declared.completion.Doubted.TheVariants as doubts
use Rattle.ots_model.specs.declared.completion.Heard.{Heard as ParticipantHeard}
use Rattle.ots_model.specs.declared.completion.Heard.TheVariants as phase_hears
use Rattle.ots_model.specs.declared.completion.Stood.{Stood}
use Rattle.ots_model.specs.declared.completion.Stood.TheVariants as answers
use Rattle.ots_model.specs.declared.service.RetryKey.{RetryKey}
use Rattle.ots_model.specs.declared.tree.Heard.{Heard}
use Rattle.ots_model.specs.declared.tree.Heard.TheVariants as hears
use Rattle.ots_model.specs.declared.tree.Reason.{Reason}
use Rattle.ots_model.specs.declared.tree.Reason.TheVariants as reasons
use Rattle.txn_tree.specs.Calls.{marked}
use Rattle.txn_tree.specs.Rows.{parent}
use Rattle.two_phase.specs.Parties.{has_voted_commit}
use Rattle.two_phase.specs.Stages as stages
use Rattle.two_phase.specs.Stages.{Standing, Waiting, Going as UnderWay}
pub use Rattle.two_phase.specs.Stages.{record_place}
use Rattle.two_phase.specs.declared.party.Party.{Party}
use Rattle.decision_journal.specs.declared.record.JournalRecord.{JournalRecord}
use Rattle.decision_journal.specs.declared.record.JournalRecord.TheVariants.{Decision}
use Rattle.decision_journal.specs.declared.record.Registration.{Registration as Recorded}
use Rattle.coordinator.specs.declared.effect.Effect.{Effect}
use Rattle.coordinator.specs.declared.effect.Effect.TheVariants as effects
use Rattle.coordinator.specs.declared.said.Entry.{Entry}
use Rattle.coordinator.specs.declared.said.Said.{Said}
use Rattle.coordinator.specs.declared.said.Said.TheVariants as said
use Rattle.coordinator.specs.Family.{Family, Call, Aim, Commits, RollsBack, Leg, Below, Own, Before, Deciding, After, call_at, with_call}
use Rattle.coordinator.specs.Moves.{Moved, only, ◌▹◌, shows, answers as answers_call, completes_as}
use Rattle.coordinator.specs.declared.phase.Column.{Column}
use Rattle.coordinator.specs.declared.phase.Column.TheVariants as columns
use Rattle.coordinator.specs.Phases.{column, is_marked, has_parent_ended}
use Rattle.coordinator.specs.Closing.{gives_up}

-- a transaction may be marked: it is going on, or it is to commit and isn't marked yet
abbrev pub is_markable_in : Column → Bool → Bool
is_markable_in columns.Active already = true
is_markable_in columns.Finishing already = not already
is_markable_in _ already = false

unfoldable pub is_markable : Family → ℕ → Bool
is_markable f b = is_markable_in (column f b) (is_marked f b)

-- it is marked, where it may be
unfoldable pub marks : ℕ → Family → Moved
marks b f = if is_markable f b then shows (effects.Marked b ∷ []) (record f { rows = marked f.rows b }) else only f

abbrev pub marks_parent : Option ℕ → Family → Moved
marks_parent (Some above) f = marks above f
marks_parent None f = only f

abbrev pub is_plain : Heard → Bool
is_plain (hears.Phase phase_hears.Done) = true
is_plain _ = false

-- a resource was told of the commit of a subtransaction: where it didn't answer plainly, the parent is marked
unfoldable pub told_commit : ℕ → Heard → Family → Moved
told_commit b h f = if is_plain h || has_parent_ended f b then only f else marks_parent (parent f.rows b) f

abbrev pub told_end : Aim → ℕ → Heard → Family → Moved
told_end (Commits asked) b h f = told_commit b h f
told_end (RollsBack says) b h f = only f

-- why a synchronization that didn't answer plainly rolls the transaction back
abbrev pub reason_of : ℕ → Heard → Reason
reason_of index (hears.Phase phase_hears.Starved) = reasons.SyncStarved index
reason_of index _ = reasons.SyncLost index

-- a synchronization was called: where it didn't answer plainly, the commit is given up
unfoldable pub told_before : ℕ → ℕ → Call → Heard → Family → Moved
told_before b called c h f =
    if is_plain h then only f else gives_up (reason_of called h) c (with_call b (record c { leg = Deciding }) f)

-- a vote is counted: what the registration has answered that was asked
abbrev pub vote_effects : ParticipantHeard → Option ℕ → List Effect
vote_effects (phase_hears.Voted vote) (Some registration) = effects.Voted registration vote ∷ []
vote_effects _ _ = []

-- the number that the completion knows its word by
abbrev pub inner_number : Family → Standing → CallNumber → CallNumber
inner_number f (Waiting room) n = n
inner_number f (UnderWay c) n = c.number

-- a participant was asked or told
unfoldable pub told_participant : CallNumber → Heard → Family → Moved
told_participant n h f =
    shows (vote_effects (of_participant h) (stages.voter f.completion)) f
    ▹ completes_as (stages.after_answer (inner_number f f.completion n) (of_participant h) f.completion)

-- what the answer does, by how far the call has come
abbrev pub told : Leg → CallNumber → ℕ → Call → Heard → Family → Moved
told Below n b c h f = only f
told Own n b c h f = told_end c.aim b h f
told (Before called) n b c h f = told_before b called c h f
told Deciding n b c h f = told_participant n h f
told (After called) n b c h f = only f

-- the answer to the word of a call: it is out no more
unfoldable pub hears_at : CallNumber → ℕ → Call → Heard → Family → Moved
hears_at n b c h f = told c.leg n b (record c { out = None }) h (with_call b (record c { out = None }) f)

-- the decision record is to be named done: all have completed, and nobody keeps a heuristic outcome
unfoldable pub wants_done : Family → Bool
wants_done f =
    is_none f.closed && is_some (record_place f.completion) && is_none (stages.next_word f.completion) && stages.is_settled f.completion

-- what the commit of the top-level transaction is answered where nobody knows whether the record stands
abbrev pub doubt_answer : Doubted → Said
doubt_answer doubts.Starved = said.NoMemory
doubt_answer _ = said.PersistStore

-- its caller is answered so, and then waits no more
unfoldable pub answers_doubt : Doubted → Option Call → Family → Moved
answers_doubt why (Some c) f = answers_call c.caller (doubt_answer why) (with_call 0 (record c { caller = None }) f)
answers_doubt why None f = only f

abbrev pub doubts_by : Stood → Family → Moved
doubts_by (answers.Unsure why) f = shows (effects.Doubted ∷ []) f ▹ (λ g. answers_doubt why (call_at g 0) g)
doubts_by _ f = only f

-- the journal was asked for the decision
unfoldable pub decided : Stood → Family → Moved
decided stood f = completes_as (stages.after_decided stood f.completion) f ▹ doubts_by stood

-- it was asked for the Done
abbrev pub done_effects : Stood → List Effect
done_effects (answers.Stands place) = effects.Done ∷ []
done_effects _ = []

unfoldable pub closes : Stood → Family → Moved
closes stood f = shows (done_effects stood) (record f { closed = Some stood })

-- what the journal answered, where it was asked for one of these
unfoldable pub settles : Option Stood → Family → Moved
settles None f = only f
settles (Some stood) f =
    if stages.wants_decision f.completion then decided stood f
    else if wants_done f then closes stood f
    else only f

-- the participants that have voted commit, as the decision record names them
abbrev pub recorded : Party → Recorded
recorded p = record { index = p.index; reference = p.to }

abbrev pub named : Standing → List Recorded
named (Waiting room) = []
named (UnderWay c) = map recorded (filter has_voted_commit c.parties)

-- the key by which the commit was called
abbrev pub commit_key : Family → Option RetryKey
commit_key f = option_and_then (λ (e : Entry). e.event.key)
    (option_and_then (slice_get f.entries) (option_and_then (λ (c : Call). c.caller) (call_at f 0)))

-- the decision record
unfoldable pub decision_record : Family → JournalRecord
decision_record f = Decision f.key.life f.key.slot f.key.generation (commit_key f) (stages.asked f.completion) (named f.completion)
