-- What each word that goes out rests on, in every completion of a tree (Transaction Service, the operations of interface
-- Resource).
use Rattle.std.specs.Prelude.{◌≡◌, ℕ, true, false, Option, Some, None}
use Rattle.std.specs.List.{slice_get}
use Rattle.ots_model.specs.declared.completion.Heard.TheVariants.{Voted}
use Rattle.ots_model.specs.declared.completion.Vote.TheVariants.{VoteCommit}
use Rattle.ots_model.specs.declared.completion.Ground.TheVariants.{Record}
use Rattle.ots_model.specs.declared.tree.Word.{Word}
use Rattle.ots_model.specs.declared.completion.Word.TheVariants as phases
use Rattle.ots_model.specs.declared.tree.Word.TheVariants as words
use Rattle.ots_model.specs.Numbered.{Outcome}
use Rattle.ots_model.specs.declared.completion.Outcome.TheVariants.{Commit, Rollback}
use Rattle.ots_model.specs.declared.tree.Outward.{Outward}
use Rattle.two_phase.specs.Course.{Course, all_consent, decides_alone, outcome, next_word, record_place, receipt_of, next_asked, next_told, may_forget}
use Rattle.two_phase.specs.Parties.{has_raised, hears_rollback}
use Rattle.two_phase.specs.declared.party.Party.{Party}

-- commit is told to a participant that hasn't answered a word that tells the outcome: each has consented, this one by
-- VoteCommit, a record stands, and the outcome is commit by it
pub record MayBeTold (p : Party) (c : Course) : Type 0 where
  pub consent : all_consent c ≡ true
  pub voted : p.ballot ≡ Some (Voted VoteCommit)
  pub place : ℕ
  pub stands : record_place c.stood c.reread ≡ Some place
  pub fixed : outcome c ≡ Some (Commit Record)
  pub untold : p.told ≡ None

-- the outcome is rollback
abbrev pub IsRollback : Option Outcome → Type 0
IsRollback (Some (Rollback reason)) = Unit {0}
IsRollback _ = ⊥

-- so is rollback: the outcome is rollback, and this participant hears it
pub record MayBeRolledBack (p : Party) (c : Course) : Type 0 where
  pub fixed : IsRollback (outcome c)
  pub hears : hears_rollback (decides_alone c) p.ballot ≡ true
  pub untold : p.told ≡ None

-- a participant is asked while the outcome is open: the first one in the list that hasn't answered
pub record MayBeAsked (place : ℕ) (p : Party) (c : Course) : Type 0 where
  pub undecided : outcome c ≡ None
  pub unanswered : p.ballot ≡ None
  pub first : next_asked c.parties ≡ Some place

-- forget is told to one that has raised a heuristic exception and hasn't answered a forget, where all have answered the word
-- that told them the outcome, and it lets forget go out
pub record MayForget (p : Party) (c : Course) : Type 0 where
  pub fixed : Outcome
  pub ends : outcome c ≡ Some fixed
  pub all_told : next_told (decides_alone c) fixed c.parties ≡ None
  pub may : may_forget c fixed ≡ true
  pub raised : has_raised p ≡ true
  pub untold : p.forgot ≡ None

-- what a word to the participant at this place rests on: no other word goes out
abbrev pub RestsOn : Word → ℕ → Party → Course → Type 0
RestsOn (words.Phase phases.Prepare) place p c = MayBeAsked place p c × (decides_alone c ≡ false)
RestsOn (words.Phase phases.CommitOnePhase) place p c = MayBeAsked place p c × (decides_alone c ≡ true)
RestsOn (words.Phase phases.Commit) place p c = MayBeTold p c
RestsOn (words.Phase phases.Rollback) place p c = MayBeRolledBack p c
RestsOn words.Forget place p c = MayForget p c
RestsOn _ place p c = ⊥

-- a word goes to one of the participants, with the next number, and a commit word with the record that stands
pub record GoesRightly (o : Outward) (c : Course) : Type 0 where
  pub place : ℕ
  pub party : Party
  pub there : slice_get c.parties place ≡ Some party
  pub registration : o.registration ≡ party.index
  pub reference : o.to ≡ party.to
  pub number : o.number ≡ c.number
  pub receipt : o.receipt ≡ receipt_of o.word (record_place c.stood c.reread) party.index
  pub rests : RestsOn o.word place party c

-- each word that goes out goes rightly
abbrev pub TreeWordsGoRightly : Type 0
TreeWordsGoRightly = (c : Course) (o : Outward) → next_word c ≡ Some o → GoesRightly o c
