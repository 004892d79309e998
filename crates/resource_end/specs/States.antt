-- How a resource of an end stands (Transaction Service, the operations of interface Resource; the states are our profile).
use Rattle.std.specs.Prelude.{Bool, true, false, ◌&&◌, Option, Some, None}
use Rattle.ots_model.specs.declared.service.Status.{Status}
use Rattle.ots_model.specs.declared.service.Status.TheVariants as status
use Rattle.ots_model.specs.declared.tree.Heard.{Heard}
use Rattle.ots_model.specs.declared.completion.Heard.TheVariants as phase_hears
use Rattle.ots_model.specs.declared.tree.Heard.TheVariants as heard
use Rattle.decision_journal.specs.declared.record.CellsEnd.{CellsEnd}
use Rattle.decision_journal.specs.declared.record.CellsEnd.TheVariants as ends
use Rattle.resource_end.specs.declared.state.State.{State}
use Rattle.resource_end.specs.declared.state.State.TheVariants as states

-- it isn't over for it
abbrev pub is_unfinished : State → Bool
is_unfinished states.Fresh = true
is_unfinished states.Working = true
is_unfinished states.Refused = true
is_unfinished states.Prepared = true
is_unfinished states.Applied = false
is_unfinished states.Undone = false
is_unfinished states.ChoseCommit = false
is_unfinished states.ChoseRollback = false
is_unfinished states.Forgotten = false

-- its puts are its own still: it holds their cells, and sees them itself
abbrev pub holds : State → Bool
holds states.Fresh = false
holds states.Working = true
holds states.Refused = false
holds states.Prepared = true
holds states.Applied = false
holds states.Undone = false
holds states.ChoseCommit = false
holds states.ChoseRollback = false
holds states.Forgotten = false

-- in this state the puts are stored
abbrev pub is_stored : State → Bool
is_stored states.Fresh = false
is_stored states.Working = false
is_stored states.Refused = false
is_stored states.Prepared = false
is_stored states.Applied = true
is_stored states.Undone = false
is_stored states.ChoseCommit = true
is_stored states.ChoseRollback = false
is_stored states.Forgotten = false

-- a change stores the puts: out of a state that holds them, into one in which they are stored
abbrev pub stores : State → State → Bool
stores before after = holds before && is_stored after

-- it was forgotten
abbrev pub is_forgotten : State → Bool
is_forgotten states.Forgotten = true
is_forgotten _ = false

-- it waits for an outcome
abbrev pub is_prepared : State → Bool
is_prepared states.Prepared = true
is_prepared _ = false

-- how a record says that one which had prepared changed into this state
abbrev pub end_of : State → Option CellsEnd
end_of states.Fresh = None
end_of states.Working = None
end_of states.Refused = None
end_of states.Prepared = None
end_of states.Applied = Some ends.Applied
end_of states.Undone = Some ends.Undone
end_of states.ChoseCommit = Some ends.ChoseCommit
end_of states.ChoseRollback = Some ends.ChoseRollback
end_of states.Forgotten = Some ends.Forgotten

-- and back
abbrev pub state_of : CellsEnd → State
state_of ends.Applied = states.Applied
state_of ends.Undone = states.Undone
state_of ends.ChoseCommit = states.ChoseCommit
state_of ends.ChoseRollback = states.ChoseRollback
state_of ends.Forgotten = states.Forgotten

-- what a resource that waits for an outcome becomes by the answer to its ask: commit where the transaction commits, rollback
-- where it rolls back or nobody knows of it any more
abbrev pub outcome_told : Status → Option State
outcome_told status.Committing = Some states.Applied
outcome_told status.Committed = Some states.Applied
outcome_told status.RollingBack = Some states.Undone
outcome_told status.RolledBack = Some states.Undone
outcome_told _ = None

abbrev pub outcome_heard : Heard → Option State
outcome_heard (heard.Told s) = outcome_told s
outcome_heard (heard.Phase phase_hears.NoObject) = Some states.Undone
outcome_heard _ = None

-- what any resource becomes by it
abbrev pub learnt : State → Heard → Option State
learnt states.Prepared h = outcome_heard h
learnt _ h = None

-- what a change is shown as: one into a state that no word or answer leads to isn't
abbrev pub made : State → Option Status
made states.Prepared = Some status.Prepared
made states.Applied = Some status.Committed
made states.Undone = Some status.RolledBack
made states.Forgotten = Some status.NoTransaction
made _ = None
