-- What stands behind each outcome of a completion of a tree: for every reason, that which it names (Transaction Service, the
-- operations of interface Resource; what becomes of a record that nobody knows of is our profile).
use Rattle.std.specs.Prelude.{◌≡◌, ◌≢◌, ℕ, ◌⊎◌, true, false, Some, None}
use Rattle.std.specs.List.{slice_get}
use Rattle.ots_model.specs.declared.completion.Heard.{Heard}
use Rattle.ots_model.specs.declared.completion.Heard.TheVariants as hears
use Rattle.ots_model.specs.declared.completion.Vote.TheVariants.{VoteRollback}
use Rattle.ots_model.specs.declared.completion.Ground.TheVariants.{Record, OnePhase, Nobody}
use Rattle.ots_model.specs.declared.completion.Stood.TheVariants.{Full}
use Rattle.ots_model.specs.declared.tree.Reason.{Reason}
use Rattle.ots_model.specs.declared.completion.Reason.TheVariants as phase_reasons
use Rattle.ots_model.specs.declared.tree.Reason.TheVariants as reasons
use Rattle.ots_model.specs.Numbered.{Outcome}
use Rattle.ots_model.specs.declared.completion.Outcome.TheVariants as outcomes
use Rattle.two_phase.specs.Course.{Course, all_consent, some_commit, decides_alone, is_unsure, record_place, outcome}
use Rattle.two_phase.specs.LawsOfReached.{IsReached}
use Rattle.two_phase.specs.declared.party.Party.{Party}

-- the participant with this number has answered its first word so
pub record HasAnswered (number : ℕ) (h : Heard) (c : Course) : Type 0 where
  pub place : ℕ
  pub party : Party
  pub there : slice_get c.parties place ≡ Some party
  pub named : party.index ≡ number
  pub ballot : party.ballot ≡ Some h

-- the only participant was to decide, and has answered so
pub record HasDecided (h : Heard) (c : Course) : Type 0 where
  pub alone : decides_alone c ≡ true
  pub number : ℕ
  pub answer : HasAnswered number h c

-- an answer to prepare that is no vote, and came
abbrev pub IsFault : Heard → Type 0
IsFault (hears.Voted vote) = ⊥
IsFault hears.Lost = ⊥
IsFault hears.Starved = ⊥
IsFault _ = Unit {0}

-- an answer to prepare by one that gave no vote
pub record HasFaulted (number : ℕ) (c : Course) : Type 0 where
  pub heard : Heard
  pub fault : IsFault heard
  pub answer : HasAnswered number heard c

-- what stands behind the reason of a rollback: where none of the answers and nothing of the record does, it came from outside
abbrev pub HasCause : Reason → Course → Type 0
HasCause (reasons.Phase (phase_reasons.Vote number)) c =
    HasAnswered number (hears.Voted VoteRollback) c ⊎ ((decides_alone c ≡ true) × HasAnswered number hears.RolledBack c)
HasCause (reasons.Phase (phase_reasons.PrepareLost number)) c = HasAnswered number hears.Lost c
HasCause (reasons.Phase (phase_reasons.PrepareStarved number)) c = HasAnswered number hears.Starved c
HasCause (reasons.Phase (phase_reasons.PrepareFault number)) c = HasFaulted number c
HasCause (reasons.Phase (phase_reasons.JournalFull used need)) c = c.stood ≡ Some (Full used need)
HasCause reasons.NotStored c = (is_unsure c.stood ≡ true) × (c.reread ≡ Some None)
HasCause reason c = c.overtaken ≡ Some reason

-- each participant has consented, one of them by VoteCommit, and the record stands
pub record IsRecorded (c : Course) : Type 0 where
  pub consent : all_consent c ≡ true
  pub waits : some_commit c ≡ true
  pub place : ℕ
  pub stands : record_place c.stood c.reread ≡ Some place

-- the only participant was to decide, and didn't tell
pub record IsUntold (c : Course) : Type 0 where
  pub heard : Heard
  pub answer : HasDecided heard c
  pub not_done : heard ≢ hears.Done
  pub not_rolled_back : heard ≢ hears.RolledBack

-- what stands behind an outcome
abbrev pub StandsBehind : Outcome → Course → Type 0
StandsBehind (outcomes.Commit Record) c = IsRecorded c
StandsBehind (outcomes.Commit OnePhase) c = HasDecided hears.Done c
StandsBehind (outcomes.Commit Nobody) c = (all_consent c ≡ true) × (some_commit c ≡ false)
StandsBehind (outcomes.Rollback reason) c = HasCause reason c
StandsBehind outcomes.Unknown c = IsUntold c

-- no outcome is without it
abbrev pub OutcomesHaveCauses : Type 0
OutcomesHaveCauses = (c : Course) (fixed : Outcome) → IsReached c → outcome c ≡ Some fixed → StandsBehind fixed c
