-- The fixed words of lines: votes and the words to participants by their names in module CosTransactions (Transaction
-- Service); the others are our profile.
use Rattle.std.specs.Prelude.{ℕ, Bool, true, false, List, codes}
use Rattle.ots_model.specs.declared.completion.Vote.{Vote}
use Rattle.ots_model.specs.declared.completion.Vote.TheVariants.{VoteCommit, VoteRollback, VoteReadOnly}
use Rattle.ots_model.specs.declared.completion.Word.{Word}
use Rattle.ots_model.specs.declared.completion.Word.TheVariants as words
use Rattle.ots_model.specs.declared.completion.Ground.{Ground}
use Rattle.ots_model.specs.declared.completion.Ground.TheVariants as grounds
use Rattle.ots_model.specs.declared.line.ResourceState.{ResourceState}
use Rattle.ots_model.specs.declared.line.ResourceState.TheVariants as states
use Rattle.ots_model.specs.declared.line.Decision.{Decision}
use Rattle.ots_model.specs.declared.line.Decision.TheVariants as decisions

-- a vote
abbrev pub vote_word : Vote → List ℕ
vote_word VoteCommit = codes "VoteCommit"
vote_word VoteRollback = codes "VoteRollback"
vote_word VoteReadOnly = codes "VoteReadOnly"

-- what a participant is told, as an operation of interface Resource
abbrev pub told_word : Word → List ℕ
told_word words.Prepare = codes "prepare"
told_word words.Commit = codes "commit"
told_word words.CommitOnePhase = codes "commit_one_phase"
told_word words.Rollback = codes "rollback"

-- the state of a resource
abbrev pub state_word : ResourceState → List ℕ
state_word states.Prepared = codes "prepared"
state_word states.Applied = codes "applied"
state_word states.Undone = codes "undone"
state_word states.Forgotten = codes "forgotten"

-- what is decided
abbrev pub decision_word : Decision → List ℕ
decision_word decisions.Commit = codes "commit"
decision_word decisions.Rollback = codes "rollback"

-- what a commit rests on
abbrev pub ground_word : Ground → List ℕ
ground_word grounds.Record = codes "record"
ground_word grounds.OnePhase = codes "phase"
ground_word grounds.Nobody = codes "none"

-- how a subtransaction ended: whether it committed
abbrev pub ending_word : Bool → List ℕ
ending_word true = codes "committed"
ending_word false = codes "rolledback"
