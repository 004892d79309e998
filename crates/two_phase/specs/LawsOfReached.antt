-- An outcome that is fixed stays, and participants are told one way and once, in every completion of a tree that there is
-- (Transaction Service, the operations of interface Resource).
use Rattle.std.specs.Prelude.{◌≡◌, ℕ, ◌≤◌, Bool, List, map, Option, Some}
use Rattle.ots_model.specs.declared.completion.CallNumber.{CallNumber}
use Rattle.ots_model.specs.declared.completion.Heard.{Heard}
use Rattle.ots_model.specs.declared.completion.Stood.{Stood}
use Rattle.ots_model.specs.declared.tree.Reason.{Reason}
use Rattle.ots_model.specs.Numbered.{Outcome}
use Rattle.ots_model.specs.declared.tree.Outward.{Outward}
use Rattle.ots_model.specs.declared.tree.Word.{Word}
use Rattle.ots_model.specs.declared.completion.Word.TheVariants as phases
use Rattle.ots_model.specs.declared.tree.Word.TheVariants as words
use Rattle.resource_votes.specs.declared.registration.Registration.{Registration}
use Rattle.resource_votes.specs.History.{times}
use Rattle.two_phase.specs.Course.{Course, begun, begun_rollback, outcome, next_word, after_next, after_answer, after_decided, after_reread, after_rollback}
use Rattle.two_phase.specs.declared.party.Party.{Party}

-- what a completion becomes: a word goes out, an answer comes, the journal answers, a reread tells, or it is rolled back from
-- outside
pub data TreeBecomes : Course → Course → Type 0 where
  by_word : (c : Course) → TreeBecomes c (after_next c)
  by_answer : (c : Course) (number : CallNumber) (heard : Heard) → TreeBecomes c (after_answer number heard c)
  by_record : (c : Course) (stood : Stood) → TreeBecomes c (after_decided stood c)
  by_reread : (c : Course) (found : Option ℕ) → TreeBecomes c (after_reread found c)
  by_rollback : (c : Course) (reason : Reason) → TreeBecomes c (after_rollback reason c)

-- the completions that there are: one that begins, by asking or by rolling back, and what it becomes
pub data IsReached : Course → Type 0 where
  begins : (participants : List Registration) (asked : Bool) (first : CallNumber) (one_phase : Bool) → IsReached (begun participants asked first one_phase)
  rolls_back : (participants : List Registration) (asked : Bool) (first : CallNumber) (one_phase : Bool) (reason : Reason) → IsReached (begun_rollback participants asked first one_phase reason)
  goes_on : (c later : Course) → IsReached c → TreeBecomes c later → IsReached later

-- an outcome that is fixed stays
abbrev pub TreeOutcomeStays : Type 0
TreeOutcomeStays = (c later : Course) (fixed : Outcome) → IsReached c → TreeBecomes c later → outcome c ≡ Some fixed → outcome later ≡ Some fixed

-- what a completion becomes by any number of steps
pub data TreeGoesOn (c : Course) : Course → Type 0 where
  still : TreeGoesOn c c
  further : (between later : Course) → TreeGoesOn c between → TreeBecomes between later → TreeGoesOn c later

-- a word that makes updates last
abbrev pub IsCommitWord : Word → Type 0
IsCommitWord (words.Phase phases.Commit) = Unit {0}
IsCommitWord (words.Phase phases.CommitOnePhase) = Unit {0}
IsCommitWord _ = ⊥

-- once a commit word has gone out, no rollback goes out
abbrev pub NoRollbackAfterCommit : Type 0
NoRollbackAfterCommit = (c later : Course) (first second : Outward) → IsReached c → next_word c ≡ Some first → IsCommitWord first.word
    → TreeGoesOn (after_next c) later → next_word later ≡ Some second → second.word ≡ words.Phase phases.Rollback → ⊥

-- once a rollback has gone out, no commit word goes out
abbrev pub NoCommitAfterRollback : Type 0
NoCommitAfterRollback = (c later : Course) (first second : Outward) → IsReached c → next_word c ≡ Some first → first.word ≡ words.Phase phases.Rollback
    → TreeGoesOn (after_next c) later → next_word later ≡ Some second → IsCommitWord second.word → ⊥

-- the numbers of the participants, in list order
abbrev pub numbers : Course → List ℕ
numbers c = map (λ (p : Party). p.index) c.parties

-- each participant has a number of its own
abbrev pub HaveOwnNumbers : Course → Type 0
HaveOwnNumbers c = (i : ℕ) → times i (numbers c) ≤ 1

-- where that is so, no word goes out to one of them twice
abbrev pub NoWordTwice : Type 0
NoWordTwice = (c later : Course) (first second : Outward) → IsReached c → HaveOwnNumbers c → next_word c ≡ Some first
    → TreeGoesOn (after_next c) later → next_word later ≡ Some second → second.word ≡ first.word → second.registration ≡ first.registration → ⊥
