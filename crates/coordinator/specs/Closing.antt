-- How the top-level transaction ends, once no subtransaction is live: synchronizations are sent before_completion, its
-- completion asks and tells the participants, synchronizations are sent after_completion, and its caller is answered
-- (Transaction Service, interfaces Synchronization and Terminator; that a family which was ever in doubt sends no
-- after_completion is our profile).
use Rattle.std.specs.Prelude.{ℕ, ◌+◌, ◌&&◌, Bool, true, false, not, List, Option, Some, None, is_none, if◌then◌else◌}
use Rattle.std.specs.List.{slice_get}
use Rattle.std.specs.Option.{option_map_or}
use Rattle.ots_model.specs.declared.service.Join.{Join}
use Rattle.ots_model.specs.declared.service.Join.TheVariants as joins
use Rattle.ots_model.specs.Numbered.{Outcome}
use Rattle.ots_model.specs.declared.completion.Outcome.TheVariants as outcomes
use Rattle.ots_model.specs.declared.tree.Outward.{Outward}
use Rattle.ots_model.specs.declared.tree.Reason.{Reason}
use Rattle.ots_model.specs.declared.tree.Reason.TheVariants as reasons
use Rattle.ots_model.specs.declared.tree.Word.{Word}
use Rattle.ots_model.specs.declared.tree.Word.TheVariants as words
use Rattle.resource_votes.specs.Ballots.{participants}
use Rattle.resource_votes.specs.declared.registration.Registration.{Registration}
use Rattle.two_phase.specs.Stages as stages
use Rattle.two_phase.specs.Stages.{Standing, Waiting, Going as UnderWay}
use Rattle.coordinator.specs.declared.said.Said.{Said}
use Rattle.coordinator.specs.declared.said.Said.TheVariants as said
use Rattle.coordinator.specs.Family.{Family, Call, Aim, Commits, RollsBack, Completing, Over, Before, Deciding, After, with_call, number_of}
use Rattle.coordinator.specs.Moves.{Moved, Notice, only, ◌▹◌, sends, ends_call, completes_as}
use Rattle.coordinator.specs.Phases.{is_marked, end_status}

-- a word to a registration or a synchronization
abbrev pub notice_to : Word → Registration → Notice
notice_to word r = record { word = word; registration = r.index; to = r.to }

-- the synchronization behind so many
abbrev pub next_synchronization : Family → ℕ → Option Registration
next_synchronization f called = slice_get f.ballots.synchronizations called

abbrev pub is_unknown : Outcome → Bool
is_unknown outcomes.Unknown = true
is_unknown _ = false

-- synchronizations are told an outcome that is known, where it never was in doubt
abbrev pub tells_synchronizations : Standing → Outcome → Bool
tells_synchronizations s fixed = not (stages.was_doubtful s) && not (is_unknown fixed)

abbrev pub next_told : Family → Outcome → ℕ → Option Registration
next_told f fixed called = if tells_synchronizations f.completion fixed then next_synchronization f called else None

-- the exception that reports what became of the updates together
abbrev pub reported : Join → Option Said
reported joins.Mixed = Some said.HeuristicMixed
reported joins.Hazard = Some said.HeuristicHazard
reported _ = None

-- what a commit is answered by its outcome alone
abbrev pub plain_answer : Outcome → Said
plain_answer (outcomes.Commit basis) = said.Plain
plain_answer (outcomes.Rollback reason) = said.TransactionRolledBack
plain_answer outcomes.Unknown = said.CommFailure

-- what it is answered, where reports may have been asked for
unfoldable pub commit_answer : Standing → Outcome → Said
commit_answer s fixed =
    if stages.asked s then option_map_or (λ x. x) (reported (stages.root_join s)) (plain_answer fixed) else plain_answer fixed

abbrev pub end_answer : Aim → Standing → Outcome → Said
end_answer (Commits asked) s fixed = commit_answer s fixed
end_answer (RollsBack says) s fixed = says

-- the top-level transaction has ended, and its caller is answered
unfoldable pub finishes : Call → Outcome → Family → Moved
finishes c fixed f = ends_call 0 c (end_answer c.aim f.completion fixed) (record f { stage = Over })

-- the next synchronization is told the outcome; then it has ended
abbrev pub tells_next : Option Registration → ℕ → Call → Outcome → Family → Moved
tells_next (Some s) called c fixed f =
    sends 0 (record c { leg = After (called + 1) }) (notice_to (words.AfterCompletion (end_status fixed)) s) None f
tells_next None called c fixed f = finishes c fixed f

unfoldable pub afterwards : ℕ → Call → Outcome → Family → Moved
afterwards called c fixed f = tells_next (next_told f fixed called) called c fixed f

-- a call waits for what the journal will tell
abbrev pub waits : ℕ → Call → Family → Moved
waits b c f = only (with_call b c f)

-- the completion has no word to send: it is over, or nobody knows whether the record stands
abbrev pub rests : Call → Option Outcome → Family → Moved
rests c (Some fixed) f = afterwards 0 c fixed f
rests c None f = waits 0 c f

abbrev pub notice_of : Outward → Notice
notice_of o = record { word = o.word; registration = o.registration; to = o.to }

-- the next word of the completion goes out
abbrev pub decides_by : Option Outward → Call → Family → Moved
decides_by (Some o) c f = sends 0 c (notice_of o) o.receipt (record f { completion = stages.after_next f.completion })
decides_by None c f = rests c (stages.outcome f.completion) f

unfoldable pub decides : Call → Family → Moved
decides c f = decides_by (stages.next_word f.completion) (record c { leg = Deciding }) f

-- whom the top-level transaction asks
abbrev pub asked_ones : Family → List Registration
asked_ones f = participants 0 f.ballots

-- a completion that begins, by asking
abbrev pub asking : Bool → Family → Standing
asking asked f = stages.started (asked_ones f) asked (number_of f 1) (is_none f.superior)

-- and one that begins with a rollback
abbrev pub rolling_back : Bool → Reason → Family → Standing
rolling_back asked reason f = stages.started_rollback (asked_ones f) asked (number_of f 1) (is_none f.superior) reason

-- a completion begins once
abbrev pub begun : Standing → Standing → Standing
begun (Waiting room) first = first
begun (UnderWay c) first = UnderWay c

-- the completion of the top-level transaction begins
unfoldable pub begins : Standing → Family → Moved
begins first f = completes_as (begun f.completion first) (record f { stage = Completing })

abbrev pub asked_of : Aim → Bool
asked_of (Commits asked) = asked
asked_of (RollsBack says) = false

-- its commit is given up
abbrev pub gives_up : Reason → Call → Family → Moved
gives_up reason c f = begins (rolling_back (asked_of c.aim) reason f) f

-- the next synchronization is called; then the completion begins
abbrev pub calls_next : Option Registration → ℕ → Call → Family → Moved
calls_next (Some s) called c f = sends 0 (record c { leg = Before (called + 1) }) (notice_to words.BeforeCompletion s) None f
calls_next None called c f = begins (asking (asked_of c.aim) f) f ▹ decides c

-- a mark counts wherever the commit goes on
unfoldable pub before : ℕ → Call → Family → Moved
before called c f =
    if is_marked f 0 then gives_up reasons.Marked c f ▹ decides c else calls_next (next_synchronization f called) called c f
