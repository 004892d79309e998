-- A resource's table: what each word makes of what is known of a resource.
use Rattle.std.proofs.Common.{◌≡◌, inl, inr, ℕ, is_some, IsTrue, List, Option, Some, None, refl}
use Rattle.ots_model.specs.Safe.{IsSent}
use Rattle.ots_model.specs.declared.completion.Vote.{Vote}
use Rattle.ots_model.specs.declared.completion.Vote.TheVariants.{VoteCommit, VoteReadOnly, VoteRollback}
use Rattle.ots_model.specs.declared.completion.Word.TheVariants as phase_words
use Rattle.ots_model.specs.declared.line.Line.{Line}
use Rattle.ots_model.specs.declared.line.ResourceState.TheVariants as shown
use Rattle.resource_end.specs.Table.{row, on_prepare}
use Rattle.resource_end.specs.declared.state.State.{State}
use Rattle.resource_end.specs.declared.state.State.TheVariants as states
use Rattle.resource_end.specs.declared.state.Word.{Word as EndWord}
use Rattle.resource_end.specs.declared.state.Word.TheVariants as tolds
use Rattle.coordinator.specs.declared.said.Said.TheVariants as said
use Rattle.nodes_world.specs.Agreement.{StatesFollow}
use Rattle.nodes_world.specs.AgreementInside.{HasNotVoted, HasVotedCommit}
use Rattle.nodes_world.specs.Ends.{answer_of_row, shown_state}

-- the state that it comes into, or stays in
abbrev pub moved : Option State → State → State
moved None s = s
moved (Some n) s = n

-- the word was told, as a line tells it
abbrev pub WasTold : EndWord → List ℕ → List Line → Type 0
WasTold tolds.Prepare name h = Unit {0}
WasTold tolds.Commit name h = IsSent phase_words.Commit name h
WasTold tolds.Rollback name h = IsSent phase_words.Rollback name h
WasTold tolds.CommitOnePhase name h = IsSent phase_words.CommitOnePhase name h
WasTold tolds.Forget name h = Unit {0}

-- it is answered
pub row_answers : (word : EndWord) (s : State) → IsTrue (is_some (answer_of_row (row word s).said))
row_answers tolds.Prepare states.Fresh = refl
row_answers tolds.Commit states.Fresh = refl
row_answers tolds.Rollback states.Fresh = refl
row_answers tolds.CommitOnePhase states.Fresh = refl
row_answers tolds.Forget states.Fresh = refl
row_answers _ _ = refl

-- only prepare is answered by a vote
pub only_prepare_votes : (word : EndWord) (s : State) (vote : Vote) → answer_of_row (row word s).said ≡ Some (said.Voted vote) → word ≡ tolds.Prepare
only_prepare_votes tolds.Prepare s vote is = refl
only_prepare_votes tolds.Commit states.Fresh vote is = absurd cc
only_prepare_votes tolds.Rollback states.Fresh vote is = absurd cc
only_prepare_votes tolds.CommitOnePhase states.Fresh vote is = absurd cc
only_prepare_votes tolds.Forget states.Fresh vote is = absurd cc
only_prepare_votes _ _ vote is = absurd cc

-- one that has voted commit goes on by the words that it is told
pub voted_moves : (word : EndWord) (s : State) (name : List ℕ) (h : List Line) → WasTold word name h → HasVotedCommit s name h
    → HasVotedCommit (moved (row word s).next s) name h
voted_moves tolds.Prepare states.Prepared name h told is = is
voted_moves tolds.Prepare states.Applied name h told is = is
voted_moves tolds.Prepare states.Undone name h told is = is
voted_moves tolds.Commit states.Prepared name h told is = inl told
voted_moves tolds.Commit states.Applied name h told is = is
voted_moves tolds.Commit states.Undone name h told is = is
voted_moves tolds.Rollback states.Prepared name h told is = told
voted_moves tolds.Rollback states.Applied name h told is = is
voted_moves tolds.Rollback states.Undone name h told is = is
voted_moves tolds.CommitOnePhase states.Prepared name h told is = inr told
voted_moves tolds.CommitOnePhase states.Applied name h told is = is
voted_moves tolds.CommitOnePhase states.Undone name h told is = is
voted_moves tolds.Forget states.Prepared name h told is = is
voted_moves tolds.Forget states.Applied name h told is = is
voted_moves tolds.Forget states.Undone name h told is = is
voted_moves _ _ name h told is = absurd is

-- its vote leaves it so
pub commit_now : (s : State) (name : List ℕ) (h : List Line) → (s ≡ states.ChoseCommit → ⊥) → (s ≡ states.ChoseRollback → ⊥) → StatesFollow s name h
    → answer_of_row (on_prepare s).said ≡ Some (said.Voted VoteCommit) → HasVotedCommit (moved (on_prepare s).next s) name h
commit_now states.Working name h unchosen unturned follows is = tt
commit_now states.Prepared name h unchosen unturned follows is = tt
commit_now states.Applied name h unchosen unturned follows is = follows
commit_now states.ChoseCommit name h unchosen unturned follows is = absurd (unchosen refl)
commit_now states.ChoseRollback name h unchosen unturned follows is = absurd (unturned refl)
commit_now _ name h unchosen unturned follows is = absurd cc

pub read_only_now : (s : State) → answer_of_row (on_prepare s).said ≡ Some (said.Voted VoteReadOnly) → moved (on_prepare s).next s ≡ states.Forgotten
read_only_now states.Fresh is = refl
read_only_now _ is = absurd cc

pub rollback_now : (s : State) → answer_of_row (on_prepare s).said ≡ Some (said.Voted VoteRollback) → moved (on_prepare s).next s ≡ states.Undone
rollback_now states.Refused is = refl
rollback_now states.Undone is = refl
rollback_now _ is = absurd cc

-- nothing moves it any more
pub forgotten_stays : (word : EndWord) → (row word states.Forgotten).next ≡ None
forgotten_stays tolds.Prepare = refl
forgotten_stays tolds.Commit = refl
forgotten_stays tolds.Rollback = refl
forgotten_stays tolds.CommitOnePhase = refl
forgotten_stays tolds.Forget = refl

pub undone_stays : (word : EndWord) → (row word states.Undone).next ≡ None
undone_stays tolds.Prepare = refl
undone_stays tolds.Commit = refl
undone_stays tolds.Rollback = refl
undone_stays tolds.CommitOnePhase = refl
undone_stays tolds.Forget = refl

pub applied_stays : (word : EndWord) → (row word states.Applied).next ≡ None
applied_stays tolds.Prepare = refl
applied_stays tolds.Commit = refl
applied_stays tolds.Rollback = refl
applied_stays tolds.CommitOnePhase = refl
applied_stays tolds.Forget = refl

-- one that hasn't voted, and doesn't by this word
pub unvoted_moves : (word : EndWord) (s : State) (name : List ℕ) (h : List Line) → WasTold word name h → HasNotVoted s name h
    → ((vote : Vote) → answer_of_row (row word s).said ≡ Some (said.Voted vote) → ⊥) → HasNotVoted (moved (row word s).next s) name h
unvoted_moves tolds.Prepare states.Fresh name h told is unvoted = absurd (unvoted VoteReadOnly refl)
unvoted_moves tolds.Prepare states.Working name h told is unvoted = absurd (unvoted VoteCommit refl)
unvoted_moves tolds.Prepare states.Refused name h told is unvoted = absurd (unvoted VoteRollback refl)
unvoted_moves tolds.Prepare states.Applied name h told is unvoted = is
unvoted_moves tolds.Prepare states.Undone name h told is unvoted = is
unvoted_moves tolds.Prepare states.Forgotten name h told is unvoted = is
unvoted_moves tolds.Commit states.Fresh name h told is unvoted = tt
unvoted_moves tolds.Commit states.Working name h told is unvoted = tt
unvoted_moves tolds.Commit states.Refused name h told is unvoted = tt
unvoted_moves tolds.Commit states.Applied name h told is unvoted = is
unvoted_moves tolds.Commit states.Undone name h told is unvoted = is
unvoted_moves tolds.Commit states.Forgotten name h told is unvoted = is
unvoted_moves tolds.Rollback states.Fresh name h told is unvoted = inl told
unvoted_moves tolds.Rollback states.Working name h told is unvoted = inl told
unvoted_moves tolds.Rollback states.Refused name h told is unvoted = inl told
unvoted_moves tolds.Rollback states.Applied name h told is unvoted = is
unvoted_moves tolds.Rollback states.Undone name h told is unvoted = is
unvoted_moves tolds.Rollback states.Forgotten name h told is unvoted = is
unvoted_moves tolds.CommitOnePhase states.Fresh name h told is unvoted = told
unvoted_moves tolds.CommitOnePhase states.Working name h told is unvoted = told
unvoted_moves tolds.CommitOnePhase states.Refused name h told is unvoted = inr told
unvoted_moves tolds.CommitOnePhase states.Applied name h told is unvoted = is
unvoted_moves tolds.CommitOnePhase states.Undone name h told is unvoted = is
unvoted_moves tolds.CommitOnePhase states.Forgotten name h told is unvoted = is
unvoted_moves tolds.Forget states.Fresh name h told is unvoted = tt
unvoted_moves tolds.Forget states.Working name h told is unvoted = tt
unvoted_moves tolds.Forget states.Refused name h told is unvoted = tt
unvoted_moves tolds.Forget states.Applied name h told is unvoted = is
unvoted_moves tolds.Forget states.Undone name h told is unvoted = is
unvoted_moves tolds.Forget states.Forgotten name h told is unvoted = is
unvoted_moves _ _ name h told is unvoted = absurd is

-- its state follows the words
pub follows_moves : (word : EndWord) (s : State) (name : List ℕ) (h : List Line) → WasTold word name h → StatesFollow s name h
    → ((row word s).next ≡ Some states.Undone → IsSent phase_words.Commit name h → ⊥) → StatesFollow (moved (row word s).next s) name h
follows_moves tolds.Prepare states.Refused name h told is undo = undo refl
follows_moves tolds.Prepare states.Applied name h told is undo = is
follows_moves tolds.Prepare states.Undone name h told is undo = is
follows_moves tolds.Commit states.Prepared name h told is undo = inl told
follows_moves tolds.Commit states.ChoseCommit name h told is undo = inl told
follows_moves tolds.Commit states.Applied name h told is undo = is
follows_moves tolds.Commit states.Undone name h told is undo = is
follows_moves tolds.Rollback states.Fresh name h told is undo = undo refl
follows_moves tolds.Rollback states.Working name h told is undo = undo refl
follows_moves tolds.Rollback states.Refused name h told is undo = undo refl
follows_moves tolds.Rollback states.Prepared name h told is undo = undo refl
follows_moves tolds.Rollback states.ChoseRollback name h told is undo = undo refl
follows_moves tolds.Rollback states.Applied name h told is undo = is
follows_moves tolds.Rollback states.Undone name h told is undo = is
follows_moves tolds.CommitOnePhase states.Working name h told is undo = inr told
follows_moves tolds.CommitOnePhase states.Prepared name h told is undo = inr told
follows_moves tolds.CommitOnePhase states.ChoseCommit name h told is undo = inr told
follows_moves tolds.CommitOnePhase states.Refused name h told is undo = undo refl
follows_moves tolds.CommitOnePhase states.Applied name h told is undo = is
follows_moves tolds.CommitOnePhase states.Undone name h told is undo = is
follows_moves tolds.Forget states.Applied name h told is undo = is
follows_moves tolds.Forget states.Undone name h told is undo = is
follows_moves _ _ name h told is undo = tt

-- what is shown is the state
pub shown_applied : (s : State) → shown_state s ≡ Some shown.Applied → s ≡ states.Applied
shown_applied states.Applied is = refl
shown_applied _ is = absurd cc

pub shown_undone : (s : State) → shown_state s ≡ Some shown.Undone → s ≡ states.Undone
shown_undone states.Undone is = refl
shown_undone _ is = absurd cc
