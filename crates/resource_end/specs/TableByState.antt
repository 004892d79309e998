-- What each word makes of a resource in each state: the table of the words, computed by the calls of an end (our profile where
-- the standard leaves it open).
use Rattle.std.specs.Prelude.{◌≡◌, ℕ, List, [], ◌∷◌, map, Option, Some, None, Result, Ok, Err}
use Rattle.ior_refs.specs.declared.key.ObjectKey.{ObjectKey}
use Rattle.ots_model.specs.declared.completion.Disposition.TheVariants as disposition
use Rattle.ots_model.specs.declared.completion.Vote.TheVariants.{VoteCommit, VoteRollback, VoteReadOnly}
use Rattle.ots_model.specs.declared.line.Decision.TheVariants as decision
use Rattle.ots_model.specs.declared.completion.Heard.{Heard as PhaseHeard}
use Rattle.ots_model.specs.declared.completion.Heard.TheVariants as phase_hears
use Rattle.ots_model.specs.declared.tree.Heard.{Heard}
use Rattle.ots_model.specs.declared.tree.Heard.TheVariants.{Phase}
use Rattle.decision_journal.specs.declared.record.CellsEnd.{CellsEnd}
use Rattle.decision_journal.specs.declared.record.CellsEnd.TheVariants as ends
use Rattle.decision_journal.specs.declared.record.JournalRecord.{JournalRecord}
use Rattle.decision_journal.specs.declared.record.JournalRecord.TheVariants.{CellsPrepared, CellsOutcome, CellsOnePhase}
use Rattle.decision_journal.specs.declared.record.Put.{Put}
use Rattle.resource_end.specs.declared.fault.EndFault.{EndFault}
use Rattle.resource_end.specs.declared.fault.EndFault.TheVariants as faults
use Rattle.resource_end.specs.declared.state.State.{State}
use Rattle.resource_end.specs.declared.state.State.TheVariants as states
use Rattle.resource_end.specs.declared.state.Word.{Word}
use Rattle.resource_end.specs.declared.state.Word.TheVariants as words
use Rattle.resource_end.specs.Limits.{resource_kind}
use Rattle.resource_end.specs.End.{End, state_named, stored}
use Rattle.resource_end.specs.Recall.{StandsNot, new_end}
use Rattle.resource_end.specs.Calls.{Journaled, StandsAt, bind, choose_heuristic, fresh, key_of, put, refuse, told, wanted}

-- the journal has room, and the record stands at this place
abbrev pub at : ℕ → Journaled
at place = record { reread = StandsNot; written = StandsAt place }

-- the place of the record by which a resource prepares here
abbrev pub place : ℕ
place = 26

-- an end of service 7 in its third life, and the key of its first resource there
abbrev pub empty_end : End
empty_end = new_end 7 3

abbrev pub first : ObjectKey
first = key_of resource_kind 1 empty_end

-- the coordinator that it asks
abbrev pub recovery : List ℕ
recovery = 82 ∷ []

-- a resource in each state
abbrev pub fresh_one : End
fresh_one = (bind first recovery (fresh resource_kind empty_end).end).end

abbrev pub working : End
working = (put first 5 50 (at place) fresh_one).end

abbrev pub refused_one : End
refused_one = (refuse first (at place) working).end

abbrev pub after_word : Word → End → End
after_word w e = (told w first (at place) e).end

abbrev pub prepared : End
prepared = after_word words.Prepare working

abbrev pub applied : End
applied = after_word words.Commit prepared

abbrev pub undone : End
undone = after_word words.Rollback prepared

abbrev pub chose_commit : End
chose_commit = (choose_heuristic first decision.Commit (at 90) prepared).end

abbrev pub chose_rollback : End
chose_rollback = (choose_heuristic first decision.Rollback (at 90) prepared).end

abbrev pub forgotten : End
forgotten = after_word words.Forget chose_commit

-- what a word shows: the answer, the record that it writes, how the resource stands then, and what its cell has stored
pub record Shown : Type 0 where
  pub answer : Result Heard EndFault
  pub written : Option JournalRecord
  pub state : State
  pub cell : Option ℕ

abbrev pub shown_by : End → Word → Shown
shown_by e w = record {
  answer = (told w first (at place) e).answer;
  written = wanted w first e;
  state = state_named first (after_word w e);
  cell = stored 5 (after_word w e);
}

-- each word in its turn
abbrev pub each : End → List Shown
each e = map (shown_by e) (words.Prepare ∷ words.Commit ∷ words.Rollback ∷ words.CommitOnePhase ∷ words.Forget ∷ [])

-- it answers so, writes nothing, and is in this state then
abbrev pub says : PhaseHeard → State → Option ℕ → Shown
says h s cell = record { answer = Ok (Phase h); written = None; state = s; cell = cell }

-- it writes a record
abbrev pub writes : PhaseHeard → JournalRecord → State → Option ℕ → Shown
writes h r s cell = record { answer = Ok (Phase h); written = Some r; state = s; cell = cell }

-- it writes how it ended
abbrev pub concludes : PhaseHeard → CellsEnd → State → Option ℕ → Shown
concludes h how s cell = writes h (CellsOutcome place how) s cell

-- nobody knows of it
abbrev pub unknown : Option ℕ → Shown
unknown cell = record { answer = Err faults.ObjectNotExist; written = None; state = states.Forgotten; cell = cell }

abbrev pub puts : List Put
puts = record { cell = 5; value = 50 } ∷ []

pub record TableByState : Type 0 where
  pub in_fresh : each fresh_one ≡
      says (phase_hears.Voted VoteReadOnly) states.Forgotten None
      ∷ says phase_hears.NotPrepared states.Fresh None
      ∷ says phase_hears.Done states.Undone None
      ∷ says phase_hears.Done states.Forgotten None
      ∷ says phase_hears.Done states.Fresh None ∷ []
  pub in_working : each working ≡
      writes (phase_hears.Voted VoteCommit) (CellsPrepared 3 1 recovery puts) states.Prepared None
      ∷ says phase_hears.NotPrepared states.Working None
      ∷ says phase_hears.Done states.Undone None
      ∷ writes phase_hears.Done (CellsOnePhase 3 1 puts) states.Applied (Some 50)
      ∷ says phase_hears.Done states.Working None ∷ []
  pub in_refused : each refused_one ≡
      says (phase_hears.Voted VoteRollback) states.Undone None
      ∷ says phase_hears.NotPrepared states.Refused None
      ∷ says phase_hears.Done states.Undone None
      ∷ says phase_hears.RolledBack states.Undone None
      ∷ says phase_hears.Done states.Refused None ∷ []
  pub in_prepared : each prepared ≡
      says (phase_hears.Voted VoteCommit) states.Prepared None
      ∷ concludes phase_hears.Done ends.Applied states.Applied (Some 50)
      ∷ concludes phase_hears.Done ends.Undone states.Undone None
      ∷ concludes phase_hears.Done ends.Applied states.Applied (Some 50)
      ∷ says phase_hears.Done states.Prepared None ∷ []
  pub in_applied : each applied ≡
      says (phase_hears.Voted VoteCommit) states.Applied (Some 50)
      ∷ says phase_hears.Done states.Applied (Some 50)
      ∷ says phase_hears.Done states.Applied (Some 50)
      ∷ says phase_hears.Done states.Applied (Some 50)
      ∷ says phase_hears.Done states.Applied (Some 50) ∷ []
  pub in_undone : each undone ≡
      says (phase_hears.Voted VoteRollback) states.Undone None
      ∷ says phase_hears.NotPrepared states.Undone None
      ∷ says phase_hears.Done states.Undone None
      ∷ says phase_hears.RolledBack states.Undone None
      ∷ says phase_hears.Done states.Undone None ∷ []
  pub in_chose_commit : each chose_commit ≡
      says (phase_hears.Voted VoteCommit) states.ChoseCommit (Some 50)
      ∷ concludes phase_hears.Done ends.Applied states.Applied (Some 50)
      ∷ says (phase_hears.Heuristic disposition.Committed) states.ChoseCommit (Some 50)
      ∷ concludes phase_hears.Done ends.Applied states.Applied (Some 50)
      ∷ concludes phase_hears.Done ends.Forgotten states.Forgotten (Some 50) ∷ []
  pub in_chose_rollback : each chose_rollback ≡
      says (phase_hears.Voted VoteCommit) states.ChoseRollback None
      ∷ says (phase_hears.Heuristic disposition.RolledBack) states.ChoseRollback None
      ∷ concludes phase_hears.Done ends.Undone states.Undone None
      ∷ says (phase_hears.Heuristic disposition.Unknown) states.ChoseRollback None
      ∷ concludes phase_hears.Done ends.Forgotten states.Forgotten None ∷ []
  pub in_forgotten : each forgotten ≡
      unknown (Some 50) ∷ unknown (Some 50) ∷ unknown (Some 50) ∷ unknown (Some 50) ∷ unknown (Some 50) ∷ []
