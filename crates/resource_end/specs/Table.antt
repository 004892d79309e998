-- What a resource answers to each word in each state, and what it becomes (Transaction Service, the operations of interface
-- Resource; where the standard leaves the answer open it is our profile).
use Rattle.std.specs.Prelude.{Some, None, Ok, Err}
use Rattle.ots_model.specs.declared.completion.Disposition.TheVariants as disposition
use Rattle.ots_model.specs.declared.completion.Vote.TheVariants.{VoteCommit, VoteRollback, VoteReadOnly}
use Rattle.ots_model.specs.declared.completion.Heard.{Heard}
use Rattle.ots_model.specs.declared.completion.Heard.TheVariants as phase_hears
use Rattle.ots_model.specs.declared.tree.Heard.TheVariants.{Phase}
use Rattle.resource_end.specs.declared.fault.EndFault.TheVariants as faults
use Rattle.resource_end.specs.declared.state.State.{State}
use Rattle.resource_end.specs.declared.state.State.TheVariants as states
use Rattle.resource_end.specs.declared.state.Word.{Word}
use Rattle.resource_end.specs.declared.state.Word.TheVariants as words
use Rattle.resource_end.specs.declared.state.Row.{Row}

-- it answers so, and stays as it is
abbrev pub stays : Heard → Row
stays h = record { said = Ok (Phase h); next = None }

-- it answers so, and becomes this
abbrev pub becomes : Heard → State → Row
becomes h s = record { said = Ok (Phase h); next = Some s }

-- nobody knows of it
abbrev pub nobody : Row
nobody = record { said = Err faults.ObjectNotExist; next = None }

-- One that has put nothing takes no part. One that has prepared, or chose since, has voted commit.
abbrev pub on_prepare : State → Row
on_prepare states.Fresh = becomes (phase_hears.Voted VoteReadOnly) states.Forgotten
on_prepare states.Working = becomes (phase_hears.Voted VoteCommit) states.Prepared
on_prepare states.Refused = becomes (phase_hears.Voted VoteRollback) states.Undone
on_prepare states.Prepared = stays (phase_hears.Voted VoteCommit)
on_prepare states.Applied = stays (phase_hears.Voted VoteCommit)
on_prepare states.Undone = stays (phase_hears.Voted VoteRollback)
on_prepare states.ChoseCommit = stays (phase_hears.Voted VoteCommit)
on_prepare states.ChoseRollback = stays (phase_hears.Voted VoteCommit)
on_prepare states.Forgotten = nobody

abbrev pub on_commit : State → Row
on_commit states.Fresh = stays phase_hears.NotPrepared
on_commit states.Working = stays phase_hears.NotPrepared
on_commit states.Refused = stays phase_hears.NotPrepared
on_commit states.Prepared = becomes phase_hears.Done states.Applied
on_commit states.Applied = stays phase_hears.Done
on_commit states.Undone = stays phase_hears.NotPrepared
on_commit states.ChoseCommit = becomes phase_hears.Done states.Applied
on_commit states.ChoseRollback = stays (phase_hears.Heuristic disposition.RolledBack)
on_commit states.Forgotten = nobody

abbrev pub on_rollback : State → Row
on_rollback states.Fresh = becomes phase_hears.Done states.Undone
on_rollback states.Working = becomes phase_hears.Done states.Undone
on_rollback states.Refused = becomes phase_hears.Done states.Undone
on_rollback states.Prepared = becomes phase_hears.Done states.Undone
on_rollback states.Applied = stays phase_hears.Done
on_rollback states.Undone = stays phase_hears.Done
on_rollback states.ChoseCommit = stays (phase_hears.Heuristic disposition.Committed)
on_rollback states.ChoseRollback = becomes phase_hears.Done states.Undone
on_rollback states.Forgotten = nobody

abbrev pub on_commit_one_phase : State → Row
on_commit_one_phase states.Fresh = becomes phase_hears.Done states.Forgotten
on_commit_one_phase states.Working = becomes phase_hears.Done states.Applied
on_commit_one_phase states.Refused = becomes phase_hears.RolledBack states.Undone
on_commit_one_phase states.Prepared = becomes phase_hears.Done states.Applied
on_commit_one_phase states.Applied = stays phase_hears.Done
on_commit_one_phase states.Undone = stays phase_hears.RolledBack
on_commit_one_phase states.ChoseCommit = becomes phase_hears.Done states.Applied
on_commit_one_phase states.ChoseRollback = stays (phase_hears.Heuristic disposition.Unknown)
on_commit_one_phase states.Forgotten = nobody

-- only a choice is there to be forgotten
abbrev pub on_forget : State → Row
on_forget states.Fresh = stays phase_hears.Done
on_forget states.Working = stays phase_hears.Done
on_forget states.Refused = stays phase_hears.Done
on_forget states.Prepared = stays phase_hears.Done
on_forget states.Applied = stays phase_hears.Done
on_forget states.Undone = stays phase_hears.Done
on_forget states.ChoseCommit = becomes phase_hears.Done states.Forgotten
on_forget states.ChoseRollback = becomes phase_hears.Done states.Forgotten
on_forget states.Forgotten = nobody

-- the row of a word, in this state
abbrev pub row : Word → State → Row
row words.Prepare s = on_prepare s
row words.Commit s = on_commit s
row words.Rollback s = on_rollback s
row words.CommitOnePhase s = on_commit_one_phase s
row words.Forget s = on_forget s
