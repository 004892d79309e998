-- What is known together, part by part.
use Rattle.std.proofs.Common.{inl, inr, ℕ, List}
use Rattle.ots_model.specs.Safe.{IsSent, IsToldCommit}
use Rattle.ots_model.specs.declared.completion.Word.{Word}
use Rattle.ots_model.specs.declared.completion.Word.TheVariants as phase_words
use Rattle.resource_end.specs.declared.state.State.{State}
use Rattle.resource_end.specs.declared.state.State.TheVariants as states
use Rattle.nodes_world.specs.Told.{Told, known}
use Rattle.nodes_world.specs.World.{World}
use Rattle.nodes_world.specs.Agreement.{IsKnown, StatesFollow, VotesAreBound, ReachedIsKnown}
use Rattle.nodes_world.specs.AgreementInside.{Known}
use Rattle.nodes_world.specs.AgreementSteps.{StepsStayKnown}
use Rattle.nodes_world.proofs.KnownLines.{among_back, among_turned, lines_of}
use Rattle.nodes_world.proofs.Reaching.{known_reached}
use Rattle.nodes_world.proofs.VotesBound.{votes_are_bound}

sent_in_order : (told : List Told) (word : Word) (name : List ℕ) → IsSent word name (lines_of told) → IsSent word name (known told)
sent_in_order told word name (number, s) = (number, among_back (known told) _ s)

sent_newest : (told : List Told) (word : Word) (name : List ℕ) → IsSent word name (known told) → IsSent word name (lines_of told)
sent_newest told word name (number, s) = (number, among_turned (known told) _ s)

commit_in_order : (told : List Told) (name : List ℕ) → IsToldCommit name (lines_of told) → IsToldCommit name (known told)
commit_in_order told name (inl s) = inl (sent_in_order told phase_words.Commit name s)
commit_in_order told name (inr s) = inr (sent_in_order told phase_words.CommitOnePhase name s)

follows_in_order : (told : List Told) (s : State) (name : List ℕ) → StatesFollow s name (lines_of told) → StatesFollow s name (known told)
follows_in_order told states.Fresh name is = is
follows_in_order told states.Working name is = is
follows_in_order told states.Refused name is = is
follows_in_order told states.Prepared name is = is
follows_in_order told states.Applied name is = commit_in_order told name is
follows_in_order told states.Undone name is = λ sent. is (sent_newest told phase_words.Commit name sent)
follows_in_order told states.ChoseCommit name is = is
follows_in_order told states.ChoseRollback name is = is
follows_in_order told states.Forgotten name is = is

pub known_together : (w : World) (told : List Told) → Known w told → VotesAreBound w → IsKnown w told
known_together w told k bound = record {
  keys = k.names.keys;
  lives = k.disks.rise;
  disks = k.disks.follows;
  numbers = k.words.once;
  words = k.words.named;
  ends = k.ends;
  recorded = k.recorded;
  one_outcome = k.one_outcome;
  records = k.records;
  held = k.disks.decisions;
  commits = k.commits;
  one_phase = k.one_phase;
  rollbacks = k.rollbacks;
  votes = bound;
  given = k.votes;
  states = λ name key r named at. follows_in_order told r.state name (k.resources name key r named at).follows;
  shown = λ name key r named at.
      let is = k.resources name key r named at in
      record {
        applied = (λ s. is.applied.0 (among_turned (known told) _ s), λ e. among_back (known told) _ (is.applied.1 e));
        undone = (λ s. is.undone.0 (among_turned (known told) _ s), λ e. among_back (known told) _ (is.undone.1 e));
      };
}

-- so all of it is known of every world that is reached
pub reached_is_known : StepsStayKnown → ReachedIsKnown
reached_is_known keeps w told reached =
    let k : Known w told = known_reached keeps w told reached in
    known_together w told k (votes_are_bound w told k)
