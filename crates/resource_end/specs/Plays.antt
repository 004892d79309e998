-- Short runs of a resource end, crashes included: what its calls answer, and what they leave (our profile).
use Rattle.std.specs.Prelude.{◌≡◌, ℕ, List, [], ◌∷◌, Some, None, Ok, Err}
use Rattle.ior_refs.specs.declared.key.ObjectKey.{ObjectKey}
use Rattle.ots_model.specs.declared.line.Decision.TheVariants as decision
use Rattle.ots_model.specs.declared.completion.Disposition.TheVariants as disposition
use Rattle.ots_model.specs.declared.completion.Vote.TheVariants.{VoteCommit}
use Rattle.ots_model.specs.declared.service.Status.TheVariants as status
use Rattle.ots_model.specs.declared.tree.Word.TheVariants.{ReplayCompletion}
use Rattle.ots_model.specs.declared.completion.Heard.TheVariants as phase_hears
use Rattle.ots_model.specs.declared.tree.Heard.TheVariants as heard
use Rattle.decision_journal.specs.declared.journal.Standing.{Standing}
use Rattle.decision_journal.specs.declared.record.CellsEnd.TheVariants as ends
use Rattle.decision_journal.specs.declared.record.JournalRecord.{JournalRecord}
use Rattle.decision_journal.specs.declared.record.JournalRecord.TheVariants.{CellsPrepared, CellsOutcome, CellsOnePhase}
use Rattle.resource_end.specs.declared.fault.EndFault.TheVariants as faults
use Rattle.resource_end.specs.declared.state.State.TheVariants as states
use Rattle.resource_end.specs.declared.state.Word.TheVariants as words
use Rattle.resource_end.specs.Limits.{resource_kind, aware_kind}
use Rattle.resource_end.specs.End.{End, state_named, stored}
use Rattle.resource_end.specs.Recall.{Reread, Stands, StandsNot, Unread, loaded}
use Rattle.resource_end.specs.Calls.{Journaled, StandsAt, Unwritten, InDoubt, asks, choose_heuristic, fresh, get, key_of, learn, put, told}
use Rattle.resource_end.specs.TableByState.{after_word, at, chose_commit, empty_end, first, place, prepared, puts, recovery, working}

-- ---- prepared, and then a crash

-- an end that was loaded again, in the next life: these records stand
abbrev pub restarted : List Standing → End
restarted standing = loaded 7 (record { life = 4; standing = standing })

abbrev pub record_at : ℕ → JournalRecord → Standing
record_at at item = record { place = at; item = item }

abbrev pub preparing : JournalRecord
preparing = CellsPrepared 3 1 recovery puts

-- the record of the prepare stands
abbrev pub in_doubt : End
in_doubt = restarted (record_at place preparing ∷ [])

-- the ask, and the coordinator's answer
abbrev pub told_committed : End
told_committed = (learn first (heard.Told status.Committed) (at 90) in_doubt).end

abbrev pub nobody_knows : End
nobody_knows = (learn first (heard.Phase phase_hears.NoObject) (at 90) in_doubt).end

-- a resource made in the new life has a key that none had before
abbrev pub next_key : ObjectKey
next_key = record { kind = aware_kind; service = 7; life = 4; slot = 0; generation = 1; index = 0 }

pub record ACrashOfPrepared : Type 0 where
  pub stands : state_named first in_doubt ≡ states.Prepared
  pub sees_its_put : get first 5 in_doubt ≡ Ok (Some 50)
  pub stored_not : stored 5 in_doubt ≡ None
  pub asks_its_coordinator : asks in_doubt ≡ record {
    number = record { life = 3; slot = 0; generation = 1; serial = 0 };
    registration = 0;
    to = recovery;
    word = ReplayCompletion;
    receipt = None;
  } ∷ []
  pub learns_commit : state_named first told_committed ≡ states.Applied
  pub stores_it : stored 5 told_committed ≡ Some 50
  pub shows_it : told_committed.changed ≡ Some status.Committed
  pub asks_no_more : asks told_committed ≡ []
  pub learns_rollback : state_named first nobody_knows ≡ states.Undone
  pub stores_nothing : stored 5 nobody_knows ≡ None
  pub is_aware_too : get (record first { kind = aware_kind }) 5 in_doubt ≡ Ok (Some 50)
  pub new_key : (fresh aware_kind in_doubt).answer ≡ Ok next_key

-- what wasn't recorded is unknown after a crash; what was, is as recorded
pub record CrashesKeepRecords : Type 0 where
  pub working_is_lost : state_named first (restarted []) ≡ states.Forgotten
  pub applied : state_named first (restarted (record_at place preparing ∷ record_at 90 (CellsOutcome place ends.Applied) ∷ [])) ≡ states.Applied
  pub applied_cell : stored 5 (restarted (record_at place preparing ∷ record_at 90 (CellsOutcome place ends.Applied) ∷ [])) ≡ Some 50
  pub undone : state_named first (restarted (record_at place preparing ∷ record_at 90 (CellsOutcome place ends.Undone) ∷ [])) ≡ states.Undone
  pub one_phase : state_named first (restarted (record_at place (CellsOnePhase 3 1 puts) ∷ [])) ≡ states.Applied
  pub one_phase_cell : stored 5 (restarted (record_at place (CellsOnePhase 3 1 puts) ∷ [])) ≡ Some 50
  pub chose : state_named first (restarted (record_at place preparing ∷ record_at 90 (CellsOutcome place ends.ChoseCommit) ∷ [])) ≡ states.ChoseCommit
  pub chose_cell : stored 5 (restarted (record_at place preparing ∷ record_at 90 (CellsOutcome place ends.ChoseCommit) ∷ [])) ≡ Some 50
  pub forgotten : state_named first (restarted (record_at place preparing ∷ record_at 90 (CellsOutcome place ends.ChoseRollback)
      ∷ record_at 105 (CellsOutcome place ends.Forgotten) ∷ [])) ≡ states.Forgotten

-- ---- a choice, and then the word

-- the same cell is stored by another resource after the choice: the commit word that comes later leaves that value
abbrev pub second : ObjectKey
second = key_of resource_kind 2 empty_end

abbrev pub with_second : End → End
with_second e = (fresh resource_kind e).end

abbrev pub overwritten : End
overwritten = (told words.CommitOnePhase second (at 200) (put second 5 60 (at 0) (with_second chose_commit)).end).end

pub record AChoiceStays : Type 0 where
  pub other_value : stored 5 overwritten ≡ Some 60
  pub commit_comes_later : stored 5 (after_word words.Commit overwritten) ≡ Some 60
  pub learns_nothing : state_named first (learn first (heard.Told status.RolledBack) (at 90) chose_commit).end ≡ states.ChoseCommit
  pub chooses_once : (choose_heuristic first decision.Rollback (at 90) chose_commit).answer ≡ Err faults.Inactive
  pub answers_again : (told words.Rollback first (at 90) (after_word words.Rollback chose_commit)).answer ≡ Ok (heard.Phase (phase_hears.Heuristic disposition.Committed))

-- ---- two resources and one cell

abbrev pub two : End
two = with_second working

abbrev pub freed : End
freed = after_word words.Rollback two

pub record OneCellHasOneHolder : Type 0 where
  pub held : (put second 5 60 (at 0) two).answer ≡ Err (faults.Transient 1)
  pub held_prepared : (put second 5 60 (at 0) (with_second prepared)).answer ≡ Err (faults.Transient 1)
  pub other_cell : (put second 6 60 (at 0) two).answer ≡ Ok tt
  pub freed_by_rollback : (put second 5 60 (at 0) freed).answer ≡ Ok tt
  pub sees_its_own : get second 5 (put second 5 60 (at 0) freed).end ≡ Ok (Some 60)
  pub other_sees_none : get second 5 two ≡ Ok None

-- ---- a journal that fails

-- the record of the prepare may stand or not
abbrev pub failing : Journaled
failing = record { reread = StandsNot; written = InDoubt faults.PersistStore }

abbrev pub unsure : End
unsure = (told words.Prepare first failing working).end

-- what reading it again finds at the next call
abbrev pub finding : Reread → Journaled
finding found = record { reread = found; written = StandsAt 90 }

abbrev pub full : Journaled
full = record { reread = StandsNot; written = Unwritten faults.NoResources }

pub record AFailureIsReadAgain : Type 0 where
  pub refused : (told words.Prepare first failing working).answer ≡ Err faults.PersistStore
  pub as_before : state_named first unsure ≡ states.Working
  pub stood : (told words.Rollback second (finding (Stands place)) unsure).answer ≡ Err faults.ObjectNotExist
  pub is_prepared : state_named first (told words.Rollback second (finding (Stands place)) unsure).end ≡ states.Prepared
  pub stood_not : state_named first (told words.Rollback second (finding StandsNot) unsure).end ≡ states.Working
  pub votes_then : (told words.Prepare first (finding (Stands place)) unsure).answer ≡ Ok (heard.Phase (phase_hears.Voted VoteCommit))
  pub unread : (told words.Rollback first (finding (Unread faults.PersistStore)) unsure).answer ≡ Err faults.PersistStore
  pub unread_changes_nothing : state_named first (told words.Rollback first (finding (Unread faults.PersistStore)) unsure).end ≡ states.Working
  pub shows_nothing : (told words.Rollback second (finding (Stands place)) unsure).end.changed ≡ None
  pub full_is_refused : (told words.Prepare first full working).answer ≡ Err faults.NoResources
  pub full_as_before : state_named first (told words.Prepare first full working).end ≡ states.Working

pub record EndsPlay : Type 0 where
  pub crash : ACrashOfPrepared
  pub records : CrashesKeepRecords
  pub choice : AChoiceStays
  pub holders : OneCellHasOneHolder
  pub failure : AFailureIsReadAgain
