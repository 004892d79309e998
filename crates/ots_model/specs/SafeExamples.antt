-- What is safe and what is not, for each of the rules: short lists of lines in the order of printing (our profile).
use Rattle.std.specs.Prelude.{ℕ, true, false, List, [], ◌∷◌, ◌++◌, codes}
use Rattle.ots_model.specs.declared.completion.Vote.TheVariants.{VoteCommit, VoteRollback, VoteReadOnly}
use Rattle.ots_model.specs.declared.completion.Word.{Word}
use Rattle.ots_model.specs.declared.completion.Word.TheVariants as words
use Rattle.ots_model.specs.declared.line.ResourceState.TheVariants as states
use Rattle.ots_model.specs.declared.line.Decision.TheVariants as decisions
use Rattle.ots_model.specs.declared.completion.Ground.TheVariants.{Record, Nobody}
use Rattle.ots_model.specs.declared.completion.Outcome.TheVariants.{Commit}
use Rattle.ots_model.specs.declared.line.Line.{Line}
use Rattle.ots_model.specs.declared.line.Line.TheVariants as lines
use Rattle.ots_model.specs.Safe.{AreSafe}

-- a node and an end
abbrev pub node : List ℕ
node = codes "n"

abbrev pub end : List ℕ
end = codes "e"

-- a top-level transaction, and a subtransaction of it
abbrev pub top : List ℕ
top = codes "t"

abbrev pub below : List ℕ
below = codes "s"

-- an imported transaction, and one between it and the top
abbrev pub low : List ℕ
low = codes "u"

abbrev pub middle : List ℕ
middle = codes "v"

-- resources
abbrev pub one : List ℕ
one = codes "g"

abbrev pub other : List ℕ
other = codes "k"

abbrev pub third : List ℕ
third = codes "m"

-- the first resource is told a word, in whichever message, and changes its state
abbrev pub tell : Word → Line
tell word = lines.Send 1 word one

abbrev pub applied : Line
applied = lines.State one states.Applied

abbrev pub undone : Line
undone = lines.State one states.Undone

-- a vote for commit
abbrev pub consents : List ℕ → Line
consents g = lines.Voted g VoteCommit

-- a decision is recorded
abbrev pub records : List ℕ → Line
records d = lines.Decide d (Commit Record)

-- a transaction with a resource, which votes commit, for which the decision is recorded, and which is told commit
abbrev pub registered : List Line
registered = lines.Top top node ∷ lines.Reg one top end ∷ []

abbrev pub voted : List Line
voted = registered ++ tell words.Prepare ∷ consents one ∷ []

abbrev pub decided : List Line
decided = voted ++ records top ∷ []

abbrev pub told : List Line
told = decided ++ tell words.Commit ∷ []

-- or which is told to decide alone
abbrev pub told_alone : List Line
told_alone = registered ++ tell words.CommitOnePhase ∷ []

-- One way: a resource that was told one outcome isn't told the other.
pub record TellsOneWay : Type 0 where
  pub commit : AreSafe told
  pub one_phase : AreSafe told_alone
  pub rollback : AreSafe (voted ++ tell words.Rollback ∷ [])
  pub not_rollback_after_commit : ¬ (AreSafe (told ++ tell words.Rollback ∷ []))
  pub not_rollback_after_one_phase : ¬ (AreSafe (told_alone ++ tell words.Rollback ∷ []))
  pub not_commit_after_rollback : ¬ (AreSafe (decided ++ tell words.Rollback ∷ tell words.Commit ∷ []))
  pub not_one_phase_after_rollback : ¬ (AreSafe (voted ++ tell words.Rollback ∷ tell words.CommitOnePhase ∷ []))

-- one of two resources has voted commit
abbrev pub half_voted : List Line
half_voted = lines.Top top node ∷ lines.Reg one top end ∷ lines.Reg other top end ∷ consents one ∷ []

-- a decision is recorded, and the first resource is told commit
abbrev pub goes_on : List ℕ → List Line
goes_on d = records d ∷ tell words.Commit ∷ []

-- By decision: commit waits for the record and for all votes.
pub record CommitsByDecision : Type 0 where
  pub once_recorded : AreSafe told
  pub read_only_consents : AreSafe (half_voted ++ lines.Voted other VoteReadOnly ∷ goes_on top)
  pub not_with_a_vote_open : ¬ (AreSafe (half_voted ++ goes_on top))
  pub not_with_a_vote_for_rollback : ¬ (AreSafe (half_voted ++ lines.Voted other VoteRollback ∷ goes_on top))
  pub not_with_a_vote_behind : ¬ (AreSafe (half_voted ++ goes_on top ++ consents other ∷ []))
  pub not_unrecorded : ¬ (AreSafe (voted ++ tell words.Commit ∷ []))
  pub not_on_another_ground : ¬ (AreSafe (voted ++ lines.Decide top (Commit Nobody) ∷ tell words.Commit ∷ []))
  pub not_recorded_behind : ¬ (AreSafe (voted ++ tell words.Commit ∷ records top ∷ []))

-- a transaction imported into another, which is imported into a third, each with a resource of its own
abbrev pub imported : List Line
imported = lines.Top top node ∷ lines.Imp middle top node ∷ lines.Reg middle top node
    ∷ lines.Imp low middle node ∷ lines.Reg low middle node
    ∷ lines.Reg one low end ∷ lines.Reg other middle end ∷ lines.Reg third top end ∷ []

-- both imported transactions have consented as participants
abbrev pub both_consented : List Line
both_consented = imported ++ consents low ∷ consents middle ∷ []

abbrev pub all_consented : List Line
all_consented = both_consented ++ consents one ∷ consents other ∷ consents third ∷ []

-- Imported: commit waits for the record of the highest superior, and for the participants of all families up to it.
pub record WaitsForSuperiors : Type 0 where
  pub once_all_consented : AreSafe (all_consented ++ goes_on top)
  pub not_by_its_own_record : ¬ (AreSafe (all_consented ++ goes_on low))
  pub not_by_the_next_record : ¬ (AreSafe (all_consented ++ goes_on middle))
  pub not_with_its_own_vote_open : ¬ (AreSafe (both_consented ++ consents other ∷ consents third ∷ goes_on top))
  pub not_with_a_vote_between_open : ¬ (AreSafe (both_consented ++ consents one ∷ consents third ∷ goes_on top))
  pub not_with_a_vote_above_open : ¬ (AreSafe (both_consented ++ consents one ∷ consents other ∷ goes_on top))

-- an imported transaction with a resource, which votes commit
abbrev pub subordinate : List Line
subordinate = lines.Top top node ∷ lines.Imp low top node ∷ lines.Reg low top node ∷ lines.Reg one low end
    ∷ consents one ∷ []

-- it was told to decide alone
abbrev pub alone : List Line
alone = subordinate ++ lines.Send 2 words.CommitOnePhase low ∷ []

-- Alone: a family that was told commit_one_phase decides for itself, and nobody for it.
pub record DecidesForItself : Type 0 where
  pub by_its_own_record : AreSafe (alone ++ goes_on low)
  pub not_by_its_superiors_record : ¬ (AreSafe (alone ++ consents low ∷ goes_on top))
  pub not_by_its_own_record_untold : ¬ (AreSafe (subordinate ++ consents low ∷ goes_on low))

-- a subtransaction with a resource
abbrev pub nested : List Line
nested = lines.Top top node ∷ lines.Sub below top ∷ lines.Reg one below end ∷ []

-- a subtransaction of it with a resource, which has committed
abbrev pub nested_twice : List Line
nested_twice = lines.Top top node ∷ lines.Sub below top ∷ lines.Sub low below ∷ lines.Reg one low end
    ∷ lines.SubDone low true ∷ []

-- To participants: of a subtransaction, once it has committed.
pub record TellsParticipants : Type 0 where
  pub of_top : AreSafe (registered ++ tell words.Prepare ∷ [])
  pub of_committed : AreSafe (nested ++ lines.SubDone below true ∷ tell words.Prepare ∷ [])
  pub of_committed_twice : AreSafe (nested_twice ++ lines.SubDone below true ∷ tell words.Prepare ∷ [])
  pub rollback_to_any : AreSafe (nested ++ tell words.Rollback ∷ [])
  pub not_unregistered : ¬ (AreSafe (lines.Top top node ∷ tell words.Prepare ∷ []))
  pub not_of_active : ¬ (AreSafe (nested ++ tell words.Prepare ∷ []))
  pub not_of_rolled_back : ¬ (AreSafe (nested ++ lines.SubDone below false ∷ tell words.Prepare ∷ []))
  pub not_committed_behind : ¬ (AreSafe (nested ++ tell words.CommitOnePhase ∷ lines.SubDone below true ∷ []))
  pub not_below_an_active : ¬ (AreSafe (nested_twice ++ tell words.Prepare ∷ []))

-- a transaction with a resource, and a subtransaction with another, which has committed
abbrev pub joined : List Line
joined = registered ++ lines.Sub below top ∷ lines.Reg other below end ∷ lines.SubDone below true ∷ []

-- Joined: commit is told to a committed subtransaction's resource too, and waits for its vote.
pub record WaitsForJoined : Type 0 where
  pub commit : AreSafe (nested ++ lines.SubDone below true ∷ consents one ∷ goes_on top)
  pub not_with_its_vote_open : ¬ (AreSafe (joined ++ consents one ∷ goes_on top))

-- Kept: what is applied was told or has learnt commit, and what was told commit isn't undone.
pub record KeepsOutcomes : Type 0 where
  pub applied_when_told : AreSafe (told ++ applied ∷ [])
  pub applied_when_told_alone : AreSafe (told_alone ++ applied ∷ [])
  pub applied_when_learnt : AreSafe (decided ++ lines.Learn one decisions.Commit ∷ applied ∷ [])
  pub undone_when_untold : AreSafe (voted ++ undone ∷ [])
  pub undone_when_told_alone : AreSafe (told_alone ++ undone ∷ [])
  pub undone_when_told_rollback : AreSafe (voted ++ tell words.Rollback ∷ undone ∷ [])
  pub not_applied_untold : ¬ (AreSafe (decided ++ applied ∷ []))
  pub not_applied_before : ¬ (AreSafe (decided ++ applied ∷ tell words.Commit ∷ []))
  pub not_applied_when_rollback_learnt : ¬ (AreSafe (decided ++ lines.Learn one decisions.Rollback ∷ applied ∷ []))
  pub not_applied_on_rollback
      : ¬ (AreSafe (voted ++ tell words.Rollback ∷ lines.Learn one decisions.Commit ∷ applied ∷ []))
  pub not_undone_when_told : ¬ (AreSafe (told ++ undone ∷ []))
  pub not_told_when_undone : ¬ (AreSafe (decided ++ undone ∷ tell words.Commit ∷ []))
  pub not_both : ¬ (AreSafe (told_alone ++ applied ∷ undone ∷ []))

-- commit was told beside a subtransaction that is still active
abbrev pub told_beside : List Line
told_beside = registered ++ lines.Sub below top ∷ lines.Reg other below end ∷ consents one ∷ goes_on top

-- commit was told in a subordinate, by its superior's record
abbrev pub told_below : List Line
told_below = subordinate ++ consents low ∷ goes_on top

-- In time: once commit was told in a family, nobody joins it any more, and its decider stays.
pub record ComesInTime : Type 0 where
  pub beside_an_active : AreSafe told_beside
  pub below_a_superior : AreSafe told_below
  pub not_registered_late : ¬ (AreSafe (told ++ lines.Reg other top end ∷ []))
  pub not_registered_late_above : ¬ (AreSafe (told_below ++ lines.Reg other top end ∷ []))
  pub not_committed_late : ¬ (AreSafe (told_beside ++ lines.SubDone below true ∷ []))
  pub not_told_alone_late : ¬ (AreSafe (told_below ++ lines.Send 2 words.CommitOnePhase low ∷ []))

-- each rule lets pass what it should, and refuses what it must
pub record SafetyExamples : Type 0 where
  pub one_way : TellsOneWay
  pub by_decision : CommitsByDecision
  pub imported : WaitsForSuperiors
  pub alone : DecidesForItself
  pub to_participants : TellsParticipants
  pub joined : WaitsForJoined
  pub kept : KeepsOutcomes
  pub in_time : ComesInTime
