-- How the transactions of a family stand: phases, statuses of the standard, and what they leave to a client's calls
-- (Transaction Service, Status of module CosTransactions; phases are our profile).
use Rattle.std.specs.Prelude.{ℕ, ◌==◌, ◌&&◌, Bool, true, false, not, Option, Some, None, is_some, if◌then◌else◌}
use Rattle.std.specs.Option.{option_map_or}
use Rattle.ots_model.specs.declared.service.Status.{Status}
use Rattle.ots_model.specs.declared.service.Status.TheVariants as status
use Rattle.ots_model.specs.Numbered.{Outcome}
use Rattle.ots_model.specs.declared.completion.Outcome.TheVariants as outcomes
use Rattle.txn_tree.specs.Rows.{state, parent, is_live_branch}
use Rattle.txn_tree.specs.Calls as tree
use Rattle.two_phase.specs.Stages as stages
use Rattle.two_phase.specs.Stages.{Standing}
use Rattle.coordinator.specs.declared.phase.Column.{Column}
use Rattle.coordinator.specs.declared.phase.Column.TheVariants as columns
use Rattle.coordinator.specs.declared.phase.Phase.{Phase}
use Rattle.coordinator.specs.declared.phase.Phase.TheVariants as phases
use Rattle.coordinator.specs.Family.{Family, Stage, Going, Finishing, Completing, Over, call_at}

-- a branch is marked
abbrev pub is_marked : Family → ℕ → Bool
is_marked f b = tree.is_marked (state f.rows b)

-- a completion before its outcome is fixed
abbrev pub open_phase : Standing → Phase
open_phase s =
    if stages.is_doubtful s then phases.Doubt
    else if stages.decides_alone s then phases.OnePhase
    else phases.Preparing

-- a completion under way
abbrev pub ending_phase : Standing → Option Outcome → Phase
ending_phase s None = open_phase s
ending_phase s (Some (outcomes.Commit basis)) = phases.Committing
ending_phase s (Some (outcomes.Rollback reason)) = phases.RollingBack
ending_phase s (Some outcomes.Unknown) = phases.OnePhase

-- a completion that is over
abbrev pub ended_phase : Standing → Option Outcome → Phase
ended_phase s None = open_phase s
ended_phase s (Some fixed) = phases.Ended fixed

abbrev pub phase_by : Stage → Family → Phase
phase_by Going f = if is_marked f 0 then phases.Marked else phases.Active
phase_by Finishing f = phases.Finishing
phase_by Completing f = ending_phase f.completion (stages.outcome f.completion)
phase_by Over f = ended_phase f.completion (stages.outcome f.completion)

-- how far the top-level transaction has come
unfoldable pub phase : Family → Phase
phase f = phase_by f.stage f

-- the status of each phase, where this tells whether it is marked
abbrev pub active_status : Bool → Status
active_status marked = if marked then status.MarkedRollback else status.Active

abbrev pub end_status : Outcome → Status
end_status (outcomes.Commit basis) = status.Committed
end_status (outcomes.Rollback reason) = status.RolledBack
end_status outcomes.Unknown = status.Unknown

abbrev pub status_by : Phase → Bool → Status
status_by phases.Joining marked = active_status marked
status_by phases.Active marked = active_status marked
status_by phases.Marked marked = status.MarkedRollback
status_by phases.Finishing marked = active_status marked
status_by phases.Preparing marked = status.Preparing
status_by phases.OnePhase marked = status.Unknown
status_by phases.Doubt marked = status.Unknown
status_by phases.Prepared marked = status.Prepared
status_by phases.Committing marked = status.Committing
status_by phases.RollingBack marked = status.RollingBack
status_by (phases.Ended fixed) marked = end_status fixed

abbrev pub top_status : Family → Status
top_status f = status_by (phase f) (is_marked f 0)

-- a subtransaction whose commit is under way
abbrev pub is_ending : Family → ℕ → Bool
is_ending f b = is_live_branch f.rows b && is_some (call_at f b)

-- the status of a branch
abbrev pub sub_status : Family → ℕ → Option Status
sub_status f b = if is_ending f b then Some status.Committing else tree.status f.rows b

unfoldable pub status_of : Family → ℕ → Option Status
status_of f b = if b == 0 then Some (top_status f) else sub_status f b

-- that of its parent; the top-level transaction counts as its own
abbrev pub parent_status_of : Family → ℕ → Option Status
parent_status_of f b = status_of f (option_map_or (λ p. p) (parent f.rows b) b)

-- how a transaction stands for a client's calls
abbrev pub top_column : Phase → Column
top_column phases.Active = columns.Active
top_column phases.Marked = columns.Marked
top_column phases.Finishing = columns.Finishing
top_column phases.RollingBack = columns.RolledBack
top_column (phases.Ended (outcomes.Rollback reason)) = columns.RolledBack
top_column _ = columns.Past

abbrev pub live_column : Option Status → Column
live_column (Some status.Active) = columns.Active
live_column (Some status.MarkedRollback) = columns.Marked
live_column (Some status.RolledBack) = columns.RolledBack
live_column _ = columns.Past

abbrev pub sub_column : Family → ℕ → Column
sub_column f b = if is_ending f b then columns.Past else live_column (tree.status f.rows b)

unfoldable pub column : Family → ℕ → Column
column f b = if b == 0 then top_column (phase f) else sub_column f b

-- what may still be registered with a transaction is for its tree to say
abbrev pub is_open : Column → Bool
is_open columns.Active = true
is_open columns.Marked = true
is_open columns.Finishing = true
is_open _ = false

-- nobody was asked yet for the outcome of the top-level transaction
abbrev pub is_before : Stage → Bool
is_before Going = true
is_before Finishing = true
is_before _ = false

-- a parent has ended: it was rolled back, or the top-level transaction has gone past its commit's beginning
abbrev pub has_ended : Family → ℕ → Bool
has_ended f p = if p == 0 then not (is_before f.stage) else not (is_live_branch f.rows p)

abbrev pub has_parent_ended : Family → ℕ → Bool
has_parent_ended f b = option_map_or (has_ended f) (parent f.rows b) false
