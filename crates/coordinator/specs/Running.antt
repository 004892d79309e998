-- How a call under way goes on: live subtransactions below its transaction are rolled back, the deepest first, each with its
-- words; then the resources of its own subtransaction are told, or the top-level transaction ends (Transaction Service,
-- nested transactions and interface SubtransactionAwareResource; that one subtransaction is rolled back after the other,
-- each word after the answer to the one before, is our profile).
use Rattle.std.specs.Prelude.{ℕ, zero, suc, ◌==◌, ◌&&◌, Bool, true, false, not, List, [], ◌∷◌, ◌++◌, length, map, filter, Option, Some, None, if◌then◌else◌}
use Rattle.ots_model.specs.declared.tree.Parent.TheVariants.{Branch}
use Rattle.ots_model.specs.Numbered.{Outcome}
use Rattle.ots_model.specs.declared.tree.Word.{Word}
use Rattle.ots_model.specs.declared.completion.Word.TheVariants as phase_words
use Rattle.ots_model.specs.declared.tree.Word.TheVariants as words
use Rattle.resource_votes.specs.Ballots.{Ballots, participants, adopted}
use Rattle.resource_votes.specs.declared.registration.Registration.{Registration}
use Rattle.txn_tree.specs.Calls.{ended, live_under}
use Rattle.txn_tree.specs.Rows.{parent, is_live_branch}
use Rattle.txn_tree.specs.declared.row.Row.{Row}
use Rattle.two_phase.specs.Stages as stages
use Rattle.coordinator.specs.declared.effect.Effect.TheVariants as effects
use Rattle.coordinator.specs.declared.said.Said.TheVariants as said
use Rattle.coordinator.specs.Family.{Family, Call, Aim, Commits, RollsBack, Duty, Ending, TellsRollback, TellsCommit, RollsBackUpdates, Stage, Finishing, Leg, Below, Own, Before, Deciding, After, call_at, without_call}
use Rattle.coordinator.specs.Moves.{Moved, Notice, only, ◌▹◌, shows, answer_to, sends, ends_call}
use Rattle.coordinator.specs.Phases.{has_parent_ended}
use Rattle.coordinator.specs.Closing.{notice_to, afterwards, decides, before, waits}

-- the resources that are told of the end of a subtransaction
abbrev pub aware_of : Ballots → ℕ → List Registration
aware_of b branch = filter (λ r. r.aware && r.branch == branch) b.registrations

-- what a registration is owed by the end of a subtransaction
abbrev pub duty_to : Ending → Registration → Duty
duty_to ending r = record { ending = ending; resource = r }

-- the duties of a subtransaction's rollback: to those that are told of its end, and then to its list
unfoldable pub undo_duties : Ballots → ℕ → List Duty
undo_duties b branch = map (duty_to TellsRollback) (aware_of b branch) ++ map (duty_to RollsBackUpdates) (participants branch b)

-- the duties of its commit, where this is its parent
unfoldable pub commit_duties : Ballots → ℕ → Option ℕ → List Duty
commit_duties b branch (Some above) = map (duty_to (TellsCommit above)) (aware_of b branch)
commit_duties b branch None = []

abbrev pub word_of : Ending → Word
word_of TellsRollback = words.RollbackSub
word_of (TellsCommit above) = words.CommitSub (Branch above)
word_of RollsBackUpdates = words.Phase phase_words.Rollback

abbrev pub duty_notice : Duty → Notice
duty_notice d = notice_to (word_of d.ending) d.resource

-- the first of these is told, and the others are left; where there is none, the next thing comes
abbrev pub tells_first : List Duty → ℕ → Call → (Family → Moved) → Family → Moved
tells_first [] b c next f = next f
tells_first (d ∷ others) b c next f = sends b (record c { left = others }) (duty_notice d) None f

-- a subtransaction is committed: its parent adopts its list
unfoldable pub commits_up : ℕ → Option ℕ → Call → Family → Moved
commits_up b (Some above) c f =
    shows (effects.SubtransactionEnded b true ∷ []) (record f { rows = ended f.rows b true; ballots = adopted b above f.ballots })
    ▹ ends_call b c said.Plain
commits_up b None c f = waits b c f

-- the parent of a subtransaction that has not ended; one that has ended is committed no more
abbrev pub adopter : List Row → ℕ → Option ℕ
adopter rows b = if is_live_branch rows b then parent rows b else None

-- its resources were told
abbrev pub own_ends : Aim → ℕ → Call → Family → Moved
own_ends (Commits asked) b c f = commits_up b (adopter f.rows b) c f
own_ends (RollsBack says) b c f = ends_call b c says f

abbrev pub own_duties : Aim → ℕ → Family → List Duty
own_duties (Commits asked) b f = commit_duties f.ballots b (parent f.rows b)
own_duties (RollsBack says) b f = undo_duties f.ballots b

-- no subtransaction is live below a subtransaction: its own resources are told
unfoldable pub tells_own : ℕ → Call → Family → Moved
tells_own b c f = tells_first (own_duties c.aim b f) b (record c { leg = Own }) (own_ends c.aim b (record c { leg = Own })) f

-- none is live below the top-level transaction: its commit goes on, or the rollback that was begun
abbrev pub passes_top : Stage → Call → Family → Moved
passes_top Finishing c f = before 0 c f
passes_top _ c f = decides c f

unfoldable pub passes : ℕ → Call → Family → Moved
passes b c f = if b == 0 then passes_top f.stage c f else tells_own b c f

-- what a commit of a subtransaction had left to tell of a rollback below it
abbrev pub left_below : Leg → Call → List Duty
left_below Below c = c.left
left_below _ c = []

abbrev pub left_by : Option Call → List Duty
left_by (Some c) = left_below c.leg c
left_by None = []

-- a commit of it is answered that it was rolled back
abbrev pub overtaken_caller : Option Call → Option ℕ
overtaken_caller (Some c) = c.caller
overtaken_caller None = None

-- a live subtransaction is rolled back: it ends first, and a commit of it is over
unfoldable pub ends_below : ℕ → Family → Moved
ends_below d f = record (shows (effects.SubtransactionEnded d false ∷ []) (without_call d (record f { rows = ended f.rows d false }))) {
  finished = answer_to (overtaken_caller (call_at f d)) said.TransactionRolledBack;
}

-- what is to be told then
abbrev pub duties_below : ℕ → Family → List Duty
duties_below d f = left_by (call_at f d) ++ undo_duties f.ballots d

-- the next live subtransaction is rolled back; where there is none, the call goes on
abbrev pub sweeps_next : Option ℕ → ℕ → Call → (Family → Moved) → Family → Moved
sweeps_next (Some d) b c next f = ends_below d f ▹ tells_first (duties_below d f) b c next
sweeps_next None b c next f = passes b c f

-- live subtransactions are rolled back one after the other, up to so many, until one has something to tell
unfoldable pub sweeps : ℕ → ℕ → Call → Family → Moved
sweeps zero b c f = passes b c f
sweeps (suc n) b c f = sweeps_next (live_under f.rows b) b c (sweeps n b c) f

abbrev pub is_commit : Aim → Bool
is_commit (Commits asked) = true
is_commit (RollsBack says) = false

abbrev pub is_below : Leg → Bool
is_below Below = true
is_below _ = false

abbrev pub has_some : List Duty → Bool
has_some [] = false
has_some (d ∷ others) = true

-- the commit of a subtransaction whose parent has ended goes no further, but the rollback of one below it does; it waits for
-- its turn in the parent's rollback
unfoldable pub is_held : ℕ → Call → Family → Bool
is_held b c f = is_commit c.aim && has_parent_ended f b && not (is_below c.leg && has_some c.left)

-- synchronizations are told of an outcome that is fixed
abbrev pub tells_after : Option Outcome → ℕ → Call → Family → Moved
tells_after (Some fixed) called c f = afterwards called c fixed f
tells_after None called c f = waits 0 c f

-- a call that has told what it had to goes on
abbrev pub by_leg : Leg → ℕ → Call → Family → Moved
by_leg Below b c f = sweeps (length f.rows) b c f
by_leg Own b c f = own_ends c.aim b c f
by_leg (Before called) b c f = before called c f
by_leg Deciding b c f = decides c f
by_leg (After called) b c f = tells_after (stages.outcome f.completion) called c f

-- a call goes on, none of whose words is out
unfoldable pub runs : ℕ → Call → Family → Moved
runs b c f = if is_held b c f then waits b c f else tells_first c.left b c (by_leg c.leg b c) f

abbrev pub runs_call : Option Call → ℕ → Family → Moved
runs_call (Some c) b f = runs b c f
runs_call None b f = only f

-- the call that ends a branch goes on, where there is one
unfoldable pub goes_on : ℕ → Family → Moved
goes_on b f = runs_call (call_at f b) b f
