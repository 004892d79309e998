-- What a client's call does and is answered, by how its transaction stands (Transaction Service, interfaces Control,
-- Coordinator, Terminator and RecoveryCoordinator; the cases in which the standard leaves the answer open are our profile).
use Rattle.std.specs.Prelude.{ℕ, ◌+◌, ◌==◌, ◌&&◌, ◌||◌, Bool, false, nat_le, nat_lt, List, [], ◌∷◌, ◌++◌, length, Option, Some, None, is_none, if◌then◌else◌}
use Rattle.ots_model.specs.declared.service.Status.{Status}
use Rattle.ots_model.specs.declared.tree.Reason.{Reason}
use Rattle.ots_model.specs.declared.tree.Reason.TheVariants as reasons
use Rattle.txn_tree.specs.Calls.{creating, created, ended}
use Rattle.txn_tree.specs.declared.row.TreeFault.{TreeFault}
use Rattle.txn_tree.specs.declared.row.TreeFault.TheVariants as tree_faults
use Rattle.resource_votes.specs.Ballots.{Ballots, registering, registering_aware, registering_sync, registered, registered_aware, registered_sync}
use Rattle.resource_votes.specs.declared.registration.VoteFault.{VoteFault}
use Rattle.resource_votes.specs.declared.registration.VoteFault.TheVariants as vote_faults
use Rattle.two_phase.specs.Stages as stages
use Rattle.coordinator.specs.declared.effect.Effect.TheVariants as effects
use Rattle.coordinator.specs.declared.phase.Phase.{Phase}
use Rattle.coordinator.specs.declared.phase.Phase.TheVariants as phases
use Rattle.coordinator.specs.declared.said.Said.{Said}
use Rattle.coordinator.specs.declared.said.Said.TheVariants as said
use Rattle.coordinator.specs.Family.{Family, Call, Aim, Commits, RollsBack, Finishing, Below}
use Rattle.coordinator.specs.Moves.{Moved, only, ◌▹◌, shows}
use Rattle.coordinator.specs.declared.phase.Column.{Column}
use Rattle.coordinator.specs.declared.phase.Column.TheVariants as columns
use Rattle.coordinator.specs.Phases.{column, is_open, phase, top_status, has_parent_ended}
use Rattle.coordinator.specs.Closing.{begins, rolling_back}
use Rattle.coordinator.specs.Running.{runs}
use Rattle.coordinator.specs.Hearing.{marks}

-- what a call does, and what it is said at once
pub record Acted : Type 0 where
  pub moved : Moved
  pub said : Said

-- it changes nothing
abbrev pub says : Said → Family → Acted
says answer f = record { moved = only f; said = answer }

-- it does so, and there is nothing to say, or the answer comes later
abbrev pub does : Said → Moved → Acted
does answer m = record { moved = m; said = answer }

-- the branch is there
abbrev pub has_branch : Family → ℕ → Bool
has_branch f b = nat_lt b (length f.rows)

-- a call is made on a branch that is there; with any other key it is on nothing
abbrev pub on_branch : ℕ → Family → Acted → Acted
on_branch b f acted = if has_branch f b then acted else says said.ObjectNotExist f

-- the terminator of a subordinate's top-level transaction is its superior's alone
abbrev pub has_terminator : Family → ℕ → Bool
has_terminator f b = has_branch f b && (is_none f.superior || nat_lt 0 b)

-- a call is made on a terminator that there is
abbrev pub on_terminator : ℕ → Family → Acted → Acted
on_terminator b f acted = if has_terminator f b then acted else says said.ObjectNotExist f

-- get_terminator
unfoldable pub gets_terminator : ℕ → Family → Acted
gets_terminator b f = says (if has_terminator f b then said.Plain else said.Unavailable) f

-- why nothing was registered
abbrev pub vote_refusal : VoteFault → Said
vote_refusal vote_faults.Inactive = said.Inactive
vote_refusal vote_faults.MarkedAlready = said.TransactionRolledBack
vote_refusal vote_faults.NotSubtransaction = said.NotSubtransaction
vote_refusal vote_faults.SynchronizationUnavailable = said.SynchronizationUnavailable
vote_refusal vote_faults.NoResources = said.NoResources
vote_refusal vote_faults.Memory = said.NoMemory

-- a registration, where nothing refuses it
abbrev pub registers : Option VoteFault → Said → Ballots → Family → Acted
registers None answer later f = does answer (only (record f { ballots = later }))
registers (Some fault) answer later f = says (vote_refusal fault) f

-- where the transaction has gone too far, its tree needn't know
abbrev pub unless_past : Column → Option VoteFault → Option VoteFault
unless_past place fault = if is_open place then fault else Some vote_faults.Inactive

-- the number of the next registration of either kind
abbrev pub next_registration : Family → ℕ
next_registration f = length f.ballots.registrations + 1

-- register_resource
unfoldable pub registers_resource : ℕ → List ℕ → Bool → Family → Acted
registers_resource b to aware f =
    registers (unless_past (column f b) (registering f.rows b f.ballots)) (said.Made (next_registration f)) (registered b to aware f.ballots) f

-- register_subtran_aware: of a top-level transaction it is refused whatever its phase
abbrev pub aware_refusal : Family → ℕ → Option VoteFault
aware_refusal f b = if b == 0 then Some vote_faults.NotSubtransaction else unless_past (column f b) (registering_aware f.rows b f.ballots)

unfoldable pub registers_aware : ℕ → List ℕ → Family → Acted
registers_aware b to f = registers (aware_refusal f b) said.Plain (registered_aware b to f.ballots) f

-- register_synchronization: of a subtransaction it is refused whatever its phase
abbrev pub sync_refusal : Family → ℕ → Option VoteFault
sync_refusal f b =
    if b == 0 then unless_past (column f b) (registering_sync f.rows b f.ballots) else Some vote_faults.SynchronizationUnavailable

unfoldable pub registers_synchronization : ℕ → List ℕ → Family → Acted
registers_synchronization b to f = registers (sync_refusal f b) said.Plain (registered_sync b to f.ballots) f

-- why no subtransaction was made
abbrev pub tree_refusal : TreeFault → Said
tree_refusal tree_faults.Inactive = said.Inactive
tree_refusal tree_faults.MarkedAlready = said.TransactionRolledBack
tree_refusal tree_faults.SubtransactionsUnavailable = said.SubtransactionsUnavailable
tree_refusal tree_faults.Memory = said.NoMemory

-- the new subtransaction comes last, and no call on it is under way
abbrev pub with_sub : ℕ → Family → Family
with_sub b f = record f { rows = created f.rows b; calls = f.calls ++ None ∷ [] }

abbrev pub creates_by : Option TreeFault → ℕ → Family → Acted
creates_by None b f = does (said.Made (length f.rows)) (only (with_sub b f))
creates_by (Some fault) b f = says (tree_refusal fault) f

abbrev pub creates_in : Column → ℕ → Family → Acted
creates_in columns.Active b f = creates_by (creating f.rows b) b f
creates_in columns.Marked b f = says said.TransactionRolledBack f
creates_in _ b f = says said.Inactive f

-- create_subtransaction
unfoldable pub creates_subtransaction : ℕ → Family → Acted
creates_subtransaction b f = creates_in (column f b) b f

-- rollback_only
unfoldable pub marks_only : ℕ → Family → Acted
marks_only b f = if is_open (column f b) then does said.Plain (marks b f) else says said.Inactive f

-- a call that begins
abbrev pub new_call : Option ℕ → Aim → Call
new_call caller aim = record { caller = caller; aim = aim; leg = Below; left = []; out = None }

-- the top-level transaction is rolled back for a reason from outside: that is decided first
unfoldable pub rolls_back_top : Reason → Option ℕ → Said → Family → Moved
rolls_back_top reason caller answer f = begins (rolling_back false reason f) f ▹ runs 0 (new_call caller (RollsBack answer))

-- a subtransaction is rolled back: it ends first
unfoldable pub rolls_back_sub : ℕ → Option ℕ → Said → Family → Moved
rolls_back_sub b caller answer f =
    shows (effects.SubtransactionEnded b false ∷ []) (record f { rows = ended f.rows b false }) ▹ runs b (new_call caller (RollsBack answer))

abbrev pub rolls_back : ℕ → Reason → Option ℕ → Said → Family → Moved
rolls_back b reason caller answer f = if b == 0 then rolls_back_top reason caller answer f else rolls_back_sub b caller answer f

-- a commit begins
abbrev pub begun_commit : ℕ → Family → Family
begun_commit b f = if b == 0 then record f { stage = Finishing } else f

unfoldable pub begins_commit : ℕ → ℕ → Bool → Family → Moved
begins_commit b position asked f = runs b (new_call (Some position) (Commits asked)) (begun_commit b f)

-- one whose parent has ended can only be rolled back, and that is its parent's
abbrev pub unless_orphan : ℕ → Family → Moved → Acted
unless_orphan b f moved = if has_parent_ended f b then says said.TransactionRolledBack f else does said.Later moved

abbrev pub commits_in : Column → ℕ → ℕ → Bool → Family → Acted
commits_in columns.Active b position asked f = unless_orphan b f (begins_commit b position asked f)
commits_in columns.Marked b position asked f =
    unless_orphan b f (rolls_back b reasons.Marked (Some position) said.TransactionRolledBack f)
commits_in columns.Finishing b position asked f = says said.InvalidTransaction f
commits_in columns.RolledBack b position asked f = says said.TransactionRolledBack f
commits_in columns.Past b position asked f = says said.InvalidTransaction f

-- commit of Terminator
unfoldable pub commits : ℕ → ℕ → Bool → Family → Acted
commits b position asked f = commits_in (column f b) b position asked f

abbrev pub rolls_back_in : Column → ℕ → ℕ → Family → Acted
rolls_back_in columns.Active b position f = does said.Later (rolls_back b reasons.Asked (Some position) said.Plain f)
rolls_back_in columns.Marked b position f = does said.Later (rolls_back b reasons.Asked (Some position) said.Plain f)
rolls_back_in columns.Finishing b position f = says said.InvalidTransaction f
rolls_back_in columns.RolledBack b position f = says said.Plain f
rolls_back_in columns.Past b position f = says said.InvalidTransaction f

-- rollback of Terminator
unfoldable pub rolls_back_asked : ℕ → ℕ → Family → Acted
rolls_back_asked b position f = rolls_back_in (column f b) b position f

-- what an ask of a participant is answered, by the phase: the status, as soon as the participant may have to know it
abbrev pub replay_by : Phase → Bool → Status → Said
replay_by phases.Joining voted s = said.NotPrepared
replay_by phases.Active voted s = said.NotPrepared
replay_by phases.Marked voted s = said.NotPrepared
replay_by phases.Finishing voted s = said.NotPrepared
replay_by phases.Preparing voted s = if voted then said.State s else said.NotPrepared
replay_by phases.OnePhase voted s = said.NotPrepared
replay_by _ voted s = said.State s

-- the registration is there; registrations count from 1
abbrev pub has_registration : Family → ℕ → Bool
has_registration f g = nat_lt 0 g && nat_le g (length f.ballots.registrations)

-- replay_completion of RecoveryCoordinator
unfoldable pub replays : ℕ → Family → Acted
replays g f =
    says (if has_registration f g then replay_by (phase f) (stages.is_named f.completion g) (top_status f) else said.ObjectNotExist) f

-- a status, of a branch that is there
abbrev pub status_said : Option Status → Said
status_said (Some s) = said.State s
status_said None = said.ObjectNotExist
