-- One participant of a completion, and what it has answered to each word that it may be sent: the first one, prepare or
-- commit_one_phase; the one that tells the outcome; and forget (Transaction Service, the operations of interface Resource).
use Rattle.std.specs.Prelude.{ℕ, ◌+◌, Bool, true, false, not, ◌&&◌, ◌||◌, List, ◌++◌, Option, Some, None, is_none, is_some}
use Rattle.std.specs.Option.{option_map, option_map_or, option_to_list}
use Rattle.ots_model.specs.declared.line.Decision.{Decision}
use Rattle.ots_model.specs.declared.line.Decision.TheVariants.{Commit, Rollback}
use Rattle.ots_model.specs.declared.completion.Disposition.{Disposition}
use Rattle.ots_model.specs.declared.completion.Disposition.TheVariants as dispositions
use Rattle.ots_model.specs.declared.completion.Heard.{Heard}
use Rattle.ots_model.specs.declared.completion.Heard.TheVariants as hears
use Rattle.ots_model.specs.declared.completion.Vote.TheVariants.{VoteCommit, VoteRollback, VoteReadOnly}
use Rattle.ots_model.specs.declared.completion.Ground.TheVariants.{OnePhase}
use Rattle.ots_model.specs.declared.tree.Reason.{Reason}
use Rattle.ots_model.specs.declared.completion.Reason.TheVariants as phase_reasons
use Rattle.ots_model.specs.declared.tree.Reason.TheVariants as reasons
use Rattle.ots_model.specs.Numbered.{Outcome}
use Rattle.ots_model.specs.declared.completion.Outcome.TheVariants as outcomes
use Rattle.resource_votes.specs.declared.registration.Registration.{Registration}
use Rattle.two_phase.specs.declared.party.Party.{Party}
use Rattle.two_phase.specs.declared.party.Stage.{Stage}
use Rattle.two_phase.specs.declared.party.Stage.TheVariants as stages

-- a registration that takes part, and has answered nothing yet
abbrev pub party_of : Registration → Party
party_of r = record { index = r.index; to = r.to; ballot = None; told = None; forgot = None }

-- an answer to prepare that lets the asking go on
abbrev pub consents : Heard → Bool
consents (hears.Voted VoteCommit) = true
consents (hears.Voted VoteReadOnly) = true
consents _ = false

abbrev pub is_commit_vote : Heard → Bool
is_commit_vote (hears.Voted VoteCommit) = true
is_commit_vote _ = false

-- it has answered its first word by VoteCommit or VoteReadOnly
abbrev pub has_consented : Party → Bool
has_consented p = option_map_or consents p.ballot false

-- it has answered its first word by anything else
abbrev pub has_refused : Party → Bool
has_refused p = option_map_or (λ h. not (consents h)) p.ballot false

-- it has answered its first word by VoteCommit
abbrev pub has_voted_commit : Party → Bool
has_voted_commit p = option_map_or is_commit_vote p.ballot false

-- it hasn't answered its first word
abbrev pub is_unasked : Party → Bool
is_unasked p = is_none p.ballot

-- it has answered its first word
abbrev pub has_answered : Party → Bool
has_answered p = is_some p.ballot

-- it has answered the word that tells the outcome
abbrev pub has_been_told : Party → Bool
has_been_told p = is_some p.told

-- why a vote that is no consent rolls the transaction back
abbrev pub reason_of : ℕ → Heard → Reason
reason_of g (hears.Voted vote) = reasons.Phase (phase_reasons.Vote g)
reason_of g hears.Lost = reasons.Phase (phase_reasons.PrepareLost g)
reason_of g hears.Starved = reasons.Phase (phase_reasons.PrepareStarved g)
reason_of g _ = reasons.Phase (phase_reasons.PrepareFault g)

-- the outcome by the answer to commit_one_phase: commit by a plain one, rollback by TRANSACTION_ROLLEDBACK; else nobody knows
abbrev pub by_answer : ℕ → Heard → Outcome
by_answer g hears.Done = outcomes.Commit OnePhase
by_answer g hears.RolledBack = outcomes.Rollback (reasons.Phase (phase_reasons.Vote g))
by_answer g _ = outcomes.Unknown

-- a rollback is told to all but those that have voted rollback or read-only, and not to one that was to decide alone and
-- has answered
abbrev pub hears_rollback : Bool → Option Heard → Bool
hears_rollback alone None = true
hears_rollback alone (Some (hears.Voted VoteRollback)) = false
hears_rollback alone (Some (hears.Voted VoteReadOnly)) = false
hears_rollback alone (Some _) = not alone

-- whether an outcome is told to a participant, where `alone` says that it was to decide alone
abbrev pub is_told : Bool → Outcome → Party → Bool
is_told alone (outcomes.Commit basis) p = has_voted_commit p
is_told alone (outcomes.Rollback reason) p = hears_rollback alone p.ballot
is_told alone outcomes.Unknown p = false

-- it is still to be told
abbrev pub is_untold : Bool → Outcome → Party → Bool
is_untold alone fixed p = is_none p.told && is_told alone fixed p

-- an answer that completes a participant: a plain one, OBJECT_NOT_EXIST, or a heuristic exception
abbrev pub completes : Heard → Bool
completes hears.Done = true
completes hears.NoObject = true
completes (hears.Heuristic d) = true
completes _ = false

-- it was told and has not completed
abbrev pub is_incomplete : Party → Bool
is_incomplete p = option_map_or (λ h. not (completes h)) p.told false

abbrev pub is_heuristic : Heard → Bool
is_heuristic (hears.Heuristic d) = true
is_heuristic _ = false

-- it has raised a heuristic exception, and keeps its outcome until forget
abbrev pub has_raised : Party → Bool
has_raised p = option_map_or is_heuristic p.ballot false || option_map_or is_heuristic p.told false

-- it is still to be told to forget
abbrev pub is_unforgotten : Party → Bool
is_unforgotten p = is_none p.forgot && has_raised p

-- how many answers it has given
abbrev pub one_where : Option Heard → ℕ
one_where None = 0
one_where (Some h) = 1

abbrev pub answers : Party → ℕ
answers p = one_where p.ballot + one_where p.told + one_where p.forgot

-- it has completed
abbrev pub has_completed : Party → Bool
has_completed p = option_map_or completes p.told false

-- it was to be told this outcome, and has completed; or it needn't be told
abbrev pub is_through : Bool → Outcome → Party → Bool
is_through alone fixed p = not (is_told alone fixed p) || has_completed p

-- an answer to forget by which a heuristic outcome is kept no longer: a plain one, or OBJECT_NOT_EXIST
abbrev pub lets_go : Heard → Bool
lets_go hears.Done = true
lets_go hears.NoObject = true
lets_go _ = false

-- what it is still owed: the commit, as long as it has voted so and hasn't completed; forget, as long as it
-- has raised a heuristic exception and may keep its outcome
abbrev pub is_owed : Stage → Party → Bool
is_owed stages.Asking p = false
is_owed stages.Telling p = has_voted_commit p && not (has_completed p)
is_owed stages.Forgetting p = has_raised p && not (option_map_or lets_go p.forgot false)

-- what an answer to the first word tells of the updates: a heuristic exception does, a vote doesn't
abbrev pub disposition_of_ballot : Option Heard → Option Disposition
disposition_of_ballot (Some (hears.Heuristic d)) = Some d
disposition_of_ballot _ = None

-- what becomes of updates that follow a decision
abbrev pub followed : Decision → Disposition
followed Commit = dispositions.Committed
followed Rollback = dispositions.RolledBack

-- what an answer to the word that tells a decision says of the updates: a plain one and OBJECT_NOT_EXIST that they followed
-- it, a heuristic exception what became of them, and any other answer that it isn't known
abbrev pub disposition_by : Decision → Heard → Disposition
disposition_by told hears.Done = followed told
disposition_by told hears.NoObject = followed told
disposition_by told (hears.Heuristic d) = d
disposition_by told _ = dispositions.Unknown

-- what was heard of its updates, where this is the decision
abbrev pub dispositions_of : Decision → Party → List Disposition
dispositions_of told p =
    option_to_list (disposition_of_ballot p.ballot) ++ option_to_list (option_map (disposition_by told) p.told)
